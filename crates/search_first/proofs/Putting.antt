-- What is put into the output: a law for each return and turn of the functions of `put`.
use Prim.Native.Nat.{ℕ, suc, ◌+◌, ◌-◌, ◌≤◌, ◌<◌}
use mathlib.Core.Path.{◌≡◌, refl, ap, sym, subst, ◌∙◌}
use mathlib.Core.List.{List, [], ◌∷◌, ◌++◌, append_assoc, append-nil}
use mathlib.Core.Option.{none, some}
use native.Mathlib.Omega.{arith}
use lib.ListN.{length, get_or, set, take, drop, drop_of_length-le, length-set, length-append}
use lib.Seq.{sets-eq}
use Rattle.format_fields.specs.Fields.{two_bytes}
use Rattle.format_fields.specs.Inner.Writing.{spliced}
use Rattle.format_fields.proofs.Split.{front}
use Rattle.format_fields.proofs.Splices.{splice_splice, nothing_spliced}
use Rattle.format_language.specs.Language.{Language, range_of, arguments_of}
use Rattle.format_language.specs.Inner.Entries.{class_range}
use Rattle.tree_reader.specs.Code.{Code, node, Codes, nil, cons}
use Rattle.tree_reader.specs.Syntax.{write, write_all, tree}
use Rattle.format_translation.specs.Translation.{Translation}
use Rattle.format_translation.specs.Running.{Clauses, clauses_of}
use Rattle.search_sources.specs.Inner.Goals.{Goal, First, FirstAll, Matches}
use Rattle.search_sources.specs.Inner.Levels.{NeedsNamed}
use Rattle.search_sources.proofs.Answers.{cons_first, first_nil, needs_zero, node_first}
use Rattle.search_sources.proofs.Tokens.{first_token}
use Rattle.search_levels.specs.Inner.Setting.{Seeks, value_at}
use Rattle.search_levels.proofs.Needing.{source_apart, the_range, value_for}
use Rattle.search_first.specs.Inner.Puts.{Puts}

-- A byte.
pub byte_past : (limit pos byte : ℕ) (o : List ℕ) → limit ≤ pos → pos ≤ limit → Puts limit (byte ∷ []) o o pos limit
byte_past limit pos byte o h i = record { to = omega arith; long = refl; is = λ x y. absurd (omega arith) }

one_set : (o : List ℕ) (pos byte : ℕ) → pos < length o → set o pos byte ≡ spliced o pos (byte ∷ [])
unfolding spliced
one_set o pos byte h = sets-eq (byte ∷ []) o pos (omega arith) ∙ append_assoc (take pos o) (byte ∷ []) (drop (pos + 1) o)

pub byte_put : (limit pos byte : ℕ) (o : List ℕ) → pos < limit → pos < length o → Puts limit (byte ∷ []) o (set o pos byte) pos (pos + 1)
byte_put limit pos byte o h i = record { to = omega arith; long = length-set o pos byte; is = λ x y. one_set o pos byte i }

pub byte_off : (limit pos byte : ℕ) (o : List ℕ) → pos < limit → length o ≤ pos → Puts limit (byte ∷ []) o o pos (pos + 1)
byte_off limit pos byte o h i = record { to = omega arith; long = refl; is = λ x y. absurd (omega arith) }

-- Nothing, and one behind the other.
pub puts_none : (limit pos : ℕ) (o : List ℕ) → pos ≤ limit → Puts limit [] o o pos pos
puts_none limit pos o h = record { to = omega arith; long = refl; is = λ x y. nothing_spliced o pos }

pub puts_past : (limit pos : ℕ) (v o : List ℕ) → limit ≤ pos → pos ≤ limit → Puts limit v o o pos limit
puts_past limit pos v o h i = record { to = omega arith; long = refl; is = λ x y. absurd (omega arith) }

pub puts_then : (limit : ℕ) (v w o m after : List ℕ) (pos p r : ℕ) → pos ≤ limit → Puts limit v o m pos p → Puts limit w m after p r → Puts limit (v ++ w) o after pos r
puts_then limit v w o m after pos p r i h k =
    let n = length-append v w in
    let x = h.to in
    let y = k.to in
    record {
      to = omega arith;
      long = k.long ∙ h.long;
      is = λ a b.
          let z : p ≡ pos + length v = omega arith in
          let s : m ≡ spliced o pos v = h.is (omega arith) (omega arith) in
          let l = h.long in
          k.is a (omega arith)
          ∙ (ap (λ (q : ℕ). spliced m q w) z ∙ (ap (λ (q : List ℕ). spliced q (pos + length v) w) s ∙ splice_splice o pos v (omega arith) w));
    }

pub puts_same : {limit pos r : ℕ} {v w o after : List ℕ} → v ≡ w → Puts limit v o after pos r → Puts limit w o after pos r
puts_same e h = rw e at h

-- The operands that are still to be put.
pub record Going (l : Language) (f : Clauses) (n : ℕ) (ks : List ℕ) (b : ℕ → Goal) (j limit : ℕ) (s : Codes) (o after : List ℕ) (pos to : ℕ) : Type 0 where
  pub done : List ℕ
  pub rest : Codes
  pub is : write_all tree s ≡ done ++ write_all tree rest
  pub first : FirstAll l f n (drop j ks) (λ i. b (i + j)) rest
  pub puts : Puts limit done o after pos to

module _ (l : Language) (f : Clauses) (n : ℕ) (ks : List ℕ) (b : ℕ → Goal) (limit : ℕ) (s : Codes) (o : List ℕ) (pos : ℕ) (small : pos ≤ limit) where
  pub going_start : FirstAll l f n ks b s → Going l f n ks b 0 limit s o o pos pos
  going_start h = record {
    done = [];
    rest = s;
    is = refl;
    first = subst (λ (w : ℕ → Goal). FirstAll l f n ks w s) (λ t i. b (none_more i t)) h;
    puts = puts_none limit pos o small;
  }
    where
      none_more : (i : ℕ) → i ≡ i + 0
      none_more i = omega arith

  module _ (j : ℕ) (after : List ℕ) (to : ℕ) (w : Going l f n ks b j limit s o after pos to) where
    pub going_end : length ks ≤ j → Puts limit (write_all tree s) o after pos to
    unfolding write
    going_end h =
        let e : w.rest ≡ nil = first_nil l f n (λ i. b (i + j)) w.rest (rw (drop_of_length-le ks {i = j} h) at w.first) in
        puts_same (sym (w.is ∙ (ap (λ (r : Codes). w.done ++ write_all tree r) e ∙ append-nil w.done))) w.puts

    module _ (here : j < length ks) where
      pub split : FirstAll l f n (get_or ks j 0 ∷ drop (j + 1) ks) (λ i. b (i + j)) w.rest
      split = rw (front ks j here) at w.first

      abbrev parts : (a : Code) × (r : Codes) × (w.rest ≡ cons a r) × First l f n (get_or ks j 0) (b (0 + j)) a
          × FirstAll l f n (drop (j + 1) ks) (λ i. b (suc i + j)) r
      parts = cons_first l f n (get_or ks j 0) (drop (j + 1) ks) (λ i. b (i + j)) w.rest split

      pub going_first : {k : ℕ} → k ≡ get_or ks j 0 → First l f n k (b j) parts.0
      going_first {k} e =
          let z : 0 + j ≡ j = omega arith in
          rw e (subst (λ (i : ℕ). First l f n (get_or ks j 0) (b i) parts.0) z parts.3)

      pub going_next : (now : List ℕ) (r : ℕ) → Puts limit (write tree parts.0) after now to r → Going l f n ks b (j + 1) limit s o now pos r
      unfolding write
      going_next now r q = record {
        done = w.done ++ write tree parts.0;
        rest = parts.1;
        is = w.is ∙ (ap (λ (x : Codes). w.done ++ write_all tree x) parts.2 ∙ sym (append_assoc w.done (write tree parts.0) (write_all tree parts.1)));
        first = subst (λ (x : ℕ → Goal). FirstAll l f n (drop (j + 1) ks) x parts.1) (λ t i. b (shift i t)) parts.4;
        puts = puts_then limit w.done (write tree parts.0) o after now pos to r small w.puts q;
      }
        where
          shift : (i : ℕ) → suc i + j ≡ i + (j + 1)
          shift i = omega arith

-- put_first
module _ (table source target places kinds bytes memory free : List ℕ) (k at : ℕ) (f : Translation) (g : Goal)
    (h : Seeks table source target places kinds bytes memory free k at f g) where
  pub token_written : (class : ℕ) → class ≡ get_or table k 0 → (class ≡ 0 → ⊥) → (n : ℕ) (t : Code) → First f.source (clauses_of f) n k g t
      → {v : ℕ} → v ≡ value_at source class bytes at → two_bytes v ≡ write tree t
  unfolding write
  token_written class e some_class n t w {v} d =
      let z = first_token f.source (clauses_of f) (source_apart table source target places kinds bytes memory free k at f g h) k
      (class_range source (class - 1)) (the_range table source target places kinds bytes memory free k at f g h class e some_class) g n
      (value_at source class bytes at) t (value_for table source target places kinds bytes memory free k at f g h class e some_class g h.asked) w in
      ap two_bytes d ∙ sym (ap (write tree) z)

  pub no_levels : range_of f.source k ≡ none → (n : ℕ) → n ≡ 0 → (t : Code) → First f.source (clauses_of f) n k g t → ⊥
  no_levels plain n e t w =
      let z = (needs_zero f.source (clauses_of f) h.setting.named k g plain).least 0 t (omega arith) (rw e at w.fits) in
      omega arith

  pub one_level : (n : ℕ) → (n ≡ 0 → ⊥) → (t : Code) → First f.source (clauses_of f) n k g t → First f.source (clauses_of f) (suc (n - 1)) k g t
  one_level n e t w = let z : n ≡ suc (n - 1) = omega arith in rw z at w

-- A name, and its operands behind it.
pub node_put : (limit k name : ℕ) (s : Codes) (t : Code) (o m after : List ℕ) (pos p r : ℕ) → pos ≤ limit → t ≡ node k name s
    → Puts limit (name ∷ []) o m pos p → Puts limit (write_all tree s) m after p r → Puts limit (write tree t) o after pos r
unfolding write
node_put limit k name s t o m after pos p r i e a b = puts_same (sym (ap (write tree) e)) (puts_then limit (name ∷ []) (write_all tree s) o m after pos p r i a b)

pub first_of : {l : Language} {f : Clauses} {n k : ℕ} {g : Goal} {t u : Code} → t ≡ u → First l f n k g t → First l f n k g u
first_of e h = rw e at h

-- put_node
pub unknown_none : (l : Language) (f : Clauses) (n k p : ℕ) (g : Goal) (s : Codes) → NeedsNamed l f n k p (suc p) g (n + 1)
    → First l f (suc n) k g (node k p s) → ⊥
unknown_none l f n k p g s q h = let z = q.least n p s (omega arith) (omega arith) (omega arith) h.fits in omega arith

-- put_operands
pub go_on : (l : Language) (f : Clauses) (k p : ℕ) (ks : List ℕ) (g : Goal) (b : ℕ → Goal) (n : ℕ) (s : Codes) → arguments_of l k p ≡ some ks
    → Matches l f k p ks g b → First l f (suc n) k g (node k p s) → FirstAll l f n ks b s
go_on l f k p ks g b n s e m h = node_first l f k p ks g b e m n s h
