-- What the root of a tree is: the name of its production and how many arguments it has (paper 01, "Languages": a legal tree of a class
-- is its value, of any other kind a production name and its argument trees).
use Rattle.std.specs.Prelude.{ℕ, suc}
use Rattle.tree_reader.specs.Code.{Code, node, token, argument, Codes, nil, cons}

-- A name is 0 to 255; this stands where there is none.
abbrev pub no_name : ℕ
no_name = 256

-- How many trees there are in a row.
unfoldable pub count : Codes → ℕ
count nil = 0
count (cons t ts) = suc (count ts)

-- The name of a tree's production; a token has no name.
abbrev pub name_of : Code → ℕ
name_of (node k p ts) = p
name_of (token v) = no_name
name_of (argument i j) = no_name

-- How many arguments a tree has; a token has none.
abbrev pub argument_count : Code → ℕ
argument_count (node k p ts) = count ts
argument_count (token v) = 0
argument_count (argument i j) = 0
