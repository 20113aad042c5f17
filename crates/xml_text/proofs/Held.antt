-- An export holds the bytes of its tree.
use Prim.Native.Nat.{ℕ, ◌+◌, ◌<◌}
use mathlib.Core.Path.{◌≡◌, refl, sym, ap, ◌∙◌}
use mathlib.Core.Bool.{true}
use mathlib.Core.List.{List, [], ◌++◌, map, append_assoc, append-nil}
use mathlib.Core.Option.{none, some}
use native.Mathlib.Omega.{arith}
use lib.ListN.{get_or}
use lib.Dec.{leb, eqb}
use borrow.Author.Tests.{leb-true}
use Rattle.format_fields.specs.Inner.Places.{places}
use Rattle.format_fields.specs.Lists.{first}
use Rattle.format_fields.proofs.Truth.{by_test, and_both, none_some, first_mem, map_cases}
use Rattle.format_language.specs.Language.{Language, Range, range_at, range_of, in_range}
use Rattle.format_language.specs.LanguageFile.{entries_of}
use Rattle.format_language.specs.Inner.Entries.{entry_at, class_range}
use Rattle.format_language.proofs.Holds.{holds_entries}
use Rattle.tree_reader.specs.Code.{Code, token, Codes}
use Rattle.tree_reader.specs.Typing.{Typed, TypedAll, typed_node, typed_token, typed_argument, typed_nil, typed_cons}
use Rattle.tree_reader.specs.Syntax.{done, write, write_all, tree}
use Rattle.format_fields.specs.Decimal.{decimal}
use Rattle.xml_text.specs.Text.{open_token, close_node, close_token, node_tag, token_tag, export, export_all}
use Rattle.xml_text.specs.Import.{read_text}
use Rattle.xml_text.specs.Inner.Contents.{Contents, empty, closing, opening, value}
use Rattle.xml_text.proofs.Round.{node_parts, no_kind, sound}
use Rattle.xml_text.proofs.Scans.{class_high}
use Rattle.xml_text.proofs.Imports.{name_small}

contents_same : {s t v u : List ℕ} → s ≡ t → v ≡ u → Contents s v → Contents t u
contents_same e f c = rw (← e, ← f) c

-- The values of a file's classes are below 65,536.
module _ (s : List ℕ) (l : Language) (e : entries_of s ≡ some l) (bytes : (i : ℕ) → get_or s i 0 < 256) where
  entry_high : (k q : ℕ) (c : Range) → range_at k (entry_at s q) ≡ some c → c.high < 65536
  unfolding range_at entry_at
  entry_high k q c h =
      by_test (eqb (get_or s q 0) 0x11)
      (λ t. by_test (eqb (get_or s (q + 3) 0) k)
      (λ u. let z : some (class_range s q) ≡ some c = cc in let y : class_range s q ≡ c = cc in rw (← y) (class_high s q bytes))
      (λ u. none_some (let i : none ≡ some c = cc in i)))
      (λ t. none_some (let i : none ≡ some c = cc in i))

  range_high : (k : ℕ) (c : Range) → range_of l k ≡ some c → c.high < 65536
  unfolding range_of
  range_high k c h =
      let m = first_mem (range_at k) (map (entry_at s) (places s)) c (ap (first (range_at k)) (holds_entries s l e).entries ∙ h) in
      let d = map_cases (entry_at s) m.0 (places s) m.1 in
      entry_high k d.0 c (ap (range_at k) (sym d.2) ∙ m.2)

  value_small : (k v : ℕ) (c : Range) → range_of l k ≡ some c → in_range c v ≡ true → v < 65536
  unfolding in_range
  value_small k v c h i =
      let a = and_both (leb c.low v) _ i in
      let b = and_both (leb v c.high) _ a.1 in
      let z = leb-true v c.high b.0 in
      let y = range_high k c h in
      omega arith

  token_parts : (k v : ℕ) (r : List ℕ) → export l k (token v) ++ r ≡ token_tag open_token k ++ (decimal v ++ (token_tag close_token k ++ r))
  unfolding export
  token_parts k v r = rw (append_assoc, append_assoc)

  -- The bytes of a tree, and behind them those of what follows it.
  mutual
    unfolding export_all write

    held : {a : Code} {k : ℕ} → Typed l [] a k → (r u : List ℕ) → Contents r u → Contents (export l k a ++ r) (write tree a ++ u)
    held (typed_node {k = k} {p = p} {t = t} {ks = ks} h g) r u c =
        opening k p (name_small s l e bytes k p ks h) (node_parts l k k p t ks r h) (held_all g (node_tag close_node k p ++ r) u (closing k p refl c))
    held (typed_token {v = v} {k = k} {c = d} h g) r u c = value k v (value_small k v d h g) (token_parts k v r) c
    held (typed_argument {i = i} {j = j} h) r u c = no_kind i j h

    held_all : {t : Codes} {ks : List ℕ} → TypedAll l [] t ks → (r u : List ℕ) → Contents r u → Contents (export_all l ks t ++ r) (write_all tree t ++ u)
    held_all typed_nil r u c = c
    held_all (typed_cons {a = a} {k = k} {t = t} {ks = ks} h g) r u c =
        rw (append_assoc, append_assoc) (held h (export_all l ks t ++ r) (write_all tree t ++ u) (held_all g r u c))

  -- What was read whole holds the bytes of the tree that it gave.
  pub held_whole : (n k : ℕ) (text : List ℕ) (a : Code) → read_text l n k text ≡ done a [] → Contents text (write tree a)
  held_whole n k text a h =
      let w = sound l n k text a [] h in
      contents_same (sym w.2) (append-nil (write tree a)) (held w.0 [] [] empty)
