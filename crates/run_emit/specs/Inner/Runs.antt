-- What the functions of the run ask for and give: for a term of the input, for the node whose arguments are put out, and
-- for codes in a row.
use Rattle.std.specs.Prelude.{ℕ, zero, suc, ◌+◌, ◌-◌, ◌/◌, ◌%◌, ◌≤◌, ◌<◌, ◌≡◌, Bool, true, false, not, cond, ◌⊎◌, List, [], ◌∷◌, map, length, get_or, eqb}
use Rattle.std.proofs.Math.Option.{some}
use Rattle.format_fields.specs.Lists.{is_some}
use Rattle.format_language.specs.Language.{Language}
use Rattle.tree_reader.specs.Code as Terms
use Rattle.tree_reader.specs.Code.{argument, Codes, nil, cons, levels, levels_all}
use Rattle.tree_reader.specs.Typing.{Uses, kind_at, Typed, TypedAll}
use Rattle.tree_reader.specs.Syntax.{write, write_all, code}
use Rattle.tree_reader.specs.declared.node.Syntax.{Syntax}
use Rattle.tree_reader.specs.declared.node.Syntax.TheVariants.{Tree, Code}
use Rattle.tree_reader.specs.Inner.Positions.{syntax_of}
use Rattle.tree_reader.specs.Inner.Ends.{Kept}
use Rattle.format_translation.specs.Translation.{Translation, mapping_of}
use Rattle.format_translation.specs.Running.{Replacing, clauses_of, substitute, substitute_all, from_one, paired, run, run_operand}
use Rattle.run_emit.specs.declared.run.Used.{Used}
use Rattle.run_emit.specs.declared.run.Used.TheVariants.{Root, At}
use Rattle.run_table.specs.Inner.Stands.{Stands}
use Rattle.run_table.specs.Inner.Table.{body_start, index_entry, source_byte, body_byte, KindsAt, SpansAllAt, Clause, Ready}

-- The bytes of a code or of codes in the syntax of the input.
abbrev pub bytes_of : Syntax → Terms.Code → List ℕ
bytes_of x u = write (syntax_of x) u

abbrev pub all_bytes : Syntax → Codes → List ℕ
all_bytes x ts = write_all (syntax_of x) ts

-- The first so many codes.
unfoldable pub front : ℕ → Codes → Codes
front zero ts = nil
front (suc j) nil = nil
front (suc j) (cons a ts) = cons a (front j ts)

-- Kind k has the number j in f.
abbrev pub Has : Translation → ℕ → ℕ → Type 0
Has f k j = is_some (mapping_of f.body k j) ≡ true

-- The table is that of f. A tree has no arguments; where a code is run, it uses arguments by numbers below 16, and f has no
-- others.
pub record Given (x : Syntax) (t : List ℕ) (f : Translation) (given : Uses) : Type 0 where
  pub ready : Ready t f
  pub plain : x ≡ Tree → given ≡ []
  pub uses : (i j k : ℕ) → kind_at given i j ≡ some k → j < 16
  pub numbers : x ≡ Code → (k j : ℕ) → Has f k j → j < 16

-- The term u of kind k stands in the input from `at` on.
pub record Term (x : Syntax) (input : List ℕ) (at : ℕ) (l : Language) (given : Uses) (u : Terms.Code) (k : ℕ) : Type 0 where
  pub typed : Typed l given u k
  pub kind : k < 32
  pub stands : Stands input at (bytes_of x u)

-- The node whose arguments ts, of kinds ks, are put out. First it has where its arguments start in the input; then, up to
-- 8, where each argument ends, or 0 where that is not known; last where its argument kinds start in the source.
pub record Node (x : Syntax) (t input node : List ℕ) (l : Language) (given : Uses) (ts : Codes) (ks : List ℕ) : Type 0 where
  pub long : length node ≡ 10
  pub kinds : KindsAt t (get_or node 9 0) ks
  pub few : length ks ≤ 8
  pub typed : TypedAll l given ts ks
  pub stands : Stands input (get_or node 0 0) (all_bytes x ts)
  pub some : 0 < get_or node 0 0
  pub known : (j : ℕ) → j < 8 → (get_or node (j + 1) 0 ≡ 0) ⊎ (get_or node (j + 1) 0 ≡ get_or node 0 0 + length (all_bytes x (front (j + 1) ts)))

-- The codes cs stand in the body from `at` up to `stop`, with the uses r.
pub record Row (t : List ℕ) (at stop : ℕ) (l : Language) (r : Uses) (cs : Codes) (js : List ℕ) : Type 0 where
  pub typed : TypedAll l r cs js
  pub stands : Stands t (body_start + at) (write_all code cs)
  pub spans : SpansAllAt t at cs
  pub ends : stop ≡ at + length (write_all code cs)
  pub inside : stop ≤ 4096
  pub narrow : (i : ℕ) → at ≤ i → i < stop → body_byte t i < 256

-- What is kept is right: a term of the kind that stands there ends there.
abbrev pub Right : Syntax → List ℕ → List ℕ → Language → Uses → Type 0
Right x ends input l given =
    (k at e : ℕ) → Kept ends k at e → (u : Terms.Code) → Typed l given u k → Stands input at (bytes_of x u) → e ≡ at + length (bytes_of x u)

-- The same node, but for what is known of it.
pub record Same (before after : List ℕ) : Type 0 where
  pub from : get_or after 9 0 ≡ get_or before 9 0
  pub start : get_or after 0 0 ≡ get_or before 0 0

-- Stepping over a term whose kind stands in the source at q.
pub record SkipAsks (x : Syntax) (t input : List ℕ) (q at : ℕ) (f : Translation) (given : Uses) (u : Terms.Code) (k : ℕ) : Type 0 where
  pub table : Given x t f given
  pub term : Term x input at f.source given u k
  pub inside : q < 1024
  pub kind : source_byte t q ≡ k
  pub levels : levels u ≤ 64

-- Where argument j of a node starts, counted from 0; the end of the last one is where one more would start.
pub record FindAsks (x : Syntax) (t input ends state : List ℕ) (j : ℕ) (f : Translation) (given : Uses) (ts : Codes) (ks : List ℕ) : Type 0 where
  pub table : Given x t f given
  pub kept : Right x ends input f.source given
  pub node : Node x t input state f.source given ts ks
  pub levels : levels_all ts ≤ 64
  pub number : j ≤ length ks

-- The end of a node's last argument. How many arguments it has stands before their kinds.
pub record LastAsks (x : Syntax) (t input ends state : List ℕ) (f : Translation) (given : Uses) (ts : Codes) (ks : List ℕ) : Type 0 where
  pub asks : FindAsks x t input ends state (length ks) f given ts ks
  pub from : 3 ≤ get_or state 9 0
  pub count : source_byte t (get_or state 9 0 - 3) ≡ length ks + 2

-- What is left of the levels is one number that falls at each call. At a node it is 32 for each level of the tree that is left; the
-- remainder counts the calls between two nodes: 17 at the codes of a clause, 16 at most at inner codes, one less at each call, and 2 or more
-- at each row. So at most 15 calls on inner codes are open between two nodes, as many as a code of 16 levels has below its root.
abbrev pub tree_level : ℕ
tree_level = 32

-- The levels left at the codes of a clause, and at inner codes.
abbrev pub ClauseLeft : ℕ → Type 0
ClauseLeft left = left % tree_level ≤ 17

abbrev pub InnerLeft : ℕ → Type 0
InnerLeft left = left % tree_level ≤ 16

-- What codes may use in the place of arguments of the kinds ks.
abbrev pub uses_for : Translation → List ℕ → Uses
uses_for f ks = map (mapping_of f.body) ks

-- Codes in a row, each use replaced by the run of that argument.
pub record RowAsks (x : Syntax) (t input ends state : List ℕ) (at stop left : ℕ) (f : Translation) (given : Uses) (ts : Codes) (ks : List ℕ) (cs : Codes) (js : List ℕ) : Type 0 where
  pub table : Given x t f given
  pub kept : Right x ends input f.source given
  pub node : Node x t input state f.source given ts ks
  pub row : Row t at stop f.target (uses_for f ks) cs js
  pub most : levels_all ts ≤ 64
  pub nodes : levels_all ts ≤ left / tree_level
  pub codes : levels_all cs + 2 ≤ left % tree_level

-- Which argument is used at c in the body, counted from 0.
abbrev pub used_place : List ℕ → ℕ → ℕ
used_place t c = body_byte t (c + 1) - 1

-- By which number a term is run: by that of the root, by 0 where 03 in the body uses it, by the number behind the argument's
-- where 04 does.
unfoldable pub used_number : List ℕ → Used → ℕ
used_number t (Root number) = number
used_number t (At c) = cond (eqb (body_byte t c) 3) 0 (body_byte t (c + 2))

-- A use lies in the body.
abbrev pub UseRoom : List ℕ → Used → Type 0
UseRoom t (Root number) = Unit {0}
UseRoom t (At c) = (c < 4096) × ((body_byte t c ≡ 3 → ⊥) → c + 2 < 4096)

-- The run of the argument of a node that is used at c in the body.
pub record ArgumentAsks (x : Syntax) (t input ends state : List ℕ) (c left : ℕ) (f : Translation) (given : Uses) (ts : Codes) (ks : List ℕ) : Type 0 where
  pub table : Given x t f given
  pub kept : Right x ends input f.source given
  pub node : Node x t input state f.source given ts ks
  pub most : levels_all ts ≤ 64
  pub nodes : levels_all ts ≤ left / tree_level
  pub more : 0 < left % tree_level
  pub room : UseRoom t (At c)
  pub some : 0 < body_byte t (c + 1)
  pub place : used_place t c < length ks
  pub has : Has f (get_or ks (used_place t c) 0) (used_number t (At c))

-- The same, of argument j, counted from 0, which starts at `at`.
pub record PlacedAsks (x : Syntax) (t input ends state : List ℕ) (left j at c : ℕ) (f : Translation) (given : Uses) (ts : Codes) (ks : List ℕ) : Type 0 where
  pub asks : ArgumentAsks x t input ends state c left f given ts ks
  pub used : j ≡ used_place t c
  pub start : at ≡ get_or state 0 0 + length (all_bytes x (front j ts))

-- The run by a number of the term that the input starts with.
pub record TermAsks (x : Syntax) (t input ends : List ℕ) (deep k number : ℕ) (f : Translation) (given : Uses) (u : Terms.Code) : Type 0 where
  pub table : Given x t f given
  pub kept : Right x ends input f.source given
  pub term : Term x input 0 f.source given u k
  pub has : Has f k number
  pub levels : levels u ≤ deep
  pub most : deep ≤ 64

-- Whether a leaf stands at `at`, where a term of kind k is to be: in a tree a class has one, in a code its sign decides.
unfoldable pub leaf_at : Syntax → List ℕ → ℕ → List ℕ → ℕ → Bool
leaf_at Tree t k b at = not (eqb (index_entry t k) 0)
leaf_at Code t k b at = not (eqb (get_or b at 0) 1)

-- The term u of kind k that stands in the input from `at` on is a production's, and its kind has the number.
pub record NodeAt (x : Syntax) (t input : List ℕ) (at k number : ℕ) (f : Translation) (given : Uses) (u : Terms.Code) : Type 0 where
  pub table : Given x t f given
  pub term : Term x input at f.source given u k
  pub inner : leaf_at x t k input at ≡ false
  pub has : Has f k number

-- The run of a production's term by a number.
pub record NodeAsks (x : Syntax) (t input ends : List ℕ) (at k number left : ℕ) (f : Translation) (given : Uses) (u : Terms.Code) : Type 0 where
  pub there : NodeAt x t input at k number f given u
  pub kept : Right x ends input f.source given
  pub most : levels u ≤ 64
  pub nodes : levels u ≤ left / tree_level
  pub whole : left % tree_level ≡ 0

-- What replaces the uses of the arguments ts of a node: their runs.
abbrev pub runs_of : Translation → Codes → Replacing
runs_of f ts = from_one (λ i by. run_operand (clauses_of f) ts i by)

-- The node of the term u that stands in the input from `at` on, and its clause of the number, whose code starts at c.
pub record Started (x : Syntax) (t input state : List ℕ) (at c number : ℕ) (f : Translation) (given : Uses) (u : Terms.Code) : Type 0 where
  pub operands : Codes
  pub kinds : List ℕ
  pub body : Terms.Code
  pub result : ℕ
  pub node : Node x t input state f.source given operands kinds
  pub clause : Clause t c body
  pub typed : Typed f.target (uses_for f kinds) body result
  pub runs : run (clauses_of f) number u ≡ substitute (runs_of f operands) body
  pub deep : levels u ≡ suc (levels_all operands)
  pub ends : get_or state 0 0 + length (all_bytes x operands) ≡ at + length (bytes_of x u)
  pub from : 3 ≤ get_or state 9 0
  pub count : source_byte t (get_or state 9 0 - 3) ≡ length kinds + 2

-- How many bytes the leaf at `at` has.
unfoldable pub leaf_length : Syntax → List ℕ → ℕ → ℕ
leaf_length Tree b at = 2
leaf_length Code b at = cond (eqb (get_or b at 0) 3) 2 3

-- By which number the argument at `at` in a code is used.
unfoldable pub leaf_number : List ℕ → ℕ → ℕ
leaf_number b at = cond (eqb (get_or b at 0) 4) (get_or b (at + 2) 0) 0

-- The bytes of the run by a number of the leaf of a code at `at`: a token stays itself.
unfoldable pub code_leaf_run : List ℕ → ℕ → ℕ → List ℕ
code_leaf_run b at j =
    cond (eqb (get_or b at 0) 2) (2 ∷ get_or b (at + 1) 0 ∷ get_or b (at + 2) 0 ∷ [])
    (write code (argument (get_or b (at + 1) 0) (paired (leaf_number b at) j)))

-- The same in either syntax.
unfoldable pub leaf_run : Syntax → List ℕ → ℕ → ℕ → List ℕ
leaf_run Tree b at j = get_or b at 0 ∷ get_or b (at + 1) 0 ∷ []
leaf_run Code b at j = code_leaf_run b at j

-- A leaf of a code is used, and run, by numbers below 16.
pub record LeafLow (b : List ℕ) (at j : ℕ) : Type 0 where
  pub number : j < 16
  pub used : leaf_number b at < 16

-- How many bytes a sign has: a tree is written without.
abbrev pub sign_length : Syntax → ℕ
sign_length Tree = 0
sign_length Code = 1

-- Where argument j starts by what is known of the node, counted from 0; 0 where it is not known.
abbrev pub known_start : List ℕ → ℕ → ℕ
known_start state j = get_or state j 0

-- The bytes of the codes, each use replaced by the run of that argument.
abbrev pub row_bytes : Syntax → Translation → Codes → Codes → List ℕ
row_bytes x f ts cs = all_bytes x (substitute_all (runs_of f ts) cs)
