-- Opening a language: a law for each return of the functions of open.rt, and what goes on from there.
use Rattle.std.specs.Prelude.{Err, Ok}
use Prim.Native.Nat.{ℕ, ◌≤◌}
use mathlib.Core.Path.{◌≡◌, refl, sym, ap, ◌∙◌}
use mathlib.Core.Bool.{Bool, true, false, not}
use mathlib.Core.List.{List, []}
use mathlib.Core.Option.{Option, none, some}
use native.Mathlib.Omega.{arith}
use lib.ListN.{length}
use lib.Dec.{ltb}
use borrow.Author.Tests.{le-ltb, ltb-false}
use Rattle.outcome.specs.Outcome.{Result, value, refused, refuse_if, checked, ◌>>=◌, Outcome}
use Rattle.outcome.specs.declared.Reason.{Reason}
use Rattle.outcome.specs.declared.Reason.TheVariants as Why
use Rattle.format_fields.specs.Keyed.{rising}
use Rattle.format_fields.proofs.Truth.{by_test, true_not}
use Rattle.format_fields.proofs.Codec.{step_value, value_inj}
use Rattle.format_language.specs.Language.{Language, is_in, entry_key, clashes}
use Rattle.format_language.specs.LanguageFile.{entries_of, language_of}
use Rattle.format_language.specs.Operations.{check_language}
use Rattle.tree_reader.specs.Code.{Code}
use Rattle.tree_reader.specs.Syntax.{read, tree}
use Rattle.tree_reader.specs.Operations.{tree_levels, whole_tree, tree_of}
use Rattle.tree_reader.specs.Inner.Index.{Ready, Indexed}
use Rattle.tree_reader.proofs.Members.{in_below}
use Rattle.format_translation.proofs.Fitting.{refuse_value}
use Rattle.format_translation.proofs.Accepted.{refused_not}
use Rattle.check_operations.specs.Inner.Opening.{root_in, rooted_of, OpenedAlone, Opened}

-- A refusal is no acceptance.
pub unaccepted : {o : Outcome} {r : Reason} {n : ℕ} {A : Type 0} → o ≡ Err r → o ≡ Ok n → A
unaccepted {r = r} {n = n} h i = refused_not {n = n} {r = r} (sym h ∙ i)

-- What a language that was accepted holds.
pub record Accepts (s : List ℕ) : Type 0 where
  pub language : Language
  pub is : language_of s ≡ value language
  pub entries : entries_of s ≡ some language
  pub short : length s ≤ 1024
  pub apart : clashes language language ≡ false

module _ (s : List ℕ) {o : Outcome} (eo : o ≡ check_language s) {n : ℕ} (accepted : o ≡ Ok n) where
  accepts_last : (l : Language) → length s ≤ 1024 → entries_of s ≡ some l → Accepts s
  unfolding check_language language_of
  accepts_last l h e =
      by_test (rising entry_key l)
      (λ i. by_test (clashes l l)
      (λ j. refused_not {n = n} {r = Why.ClassIsResult} (cc (le-ltb 1024 (length s) h)))
      (λ j. record { language = l; is = cc (le-ltb 1024 (length s) h); entries = e; short = h; apart = j }))
      (λ i. refused_not {n = n} {r = Why.OutOfOrder} (cc (le-ltb 1024 (length s) h)))

  accepts_entries : (m : Option Language) → length s ≤ 1024 → entries_of s ≡ m → Accepts s
  unfolding check_language language_of
  accepts_entries none h e = refused_not {n = n} {r = Why.BrokenField} (cc (le-ltb 1024 (length s) h))
  accepts_entries (some l) h e = accepts_last l h e

  pub accepts : Accepts s
  unfolding check_language language_of
  accepts =
      by_test (ltb 1024 (length s))
      (λ i. refused_not {n = n} {r = Why.TooLong} (cc))
      (λ i. accepts_entries (entries_of s) (ltb-false _ _ i) refl)

-- What is known of a language that was accepted.
accepted_language : (s : List ℕ) (l : Language) → language_of s ≡ value l → check_language s ≡ Ok 0
unfolding check_language
accepted_language s l e = rw e

pub language_facts : (s : List ℕ) (l : Language) → language_of s ≡ value l → (entries_of s ≡ some l) × (clashes l l ≡ false)
language_facts s l e =
    let a = accepts s {o = check_language s} refl {n = 0} (accepted_language s l e) in
    let z : a.language ≡ l = value_inj (sym a.is ∙ e) in
    (a.entries ∙ ap some z, rw z at a.apart)

-- index_language
pub refused_language : (s : List ℕ) {o : Outcome} {r : Reason} {l : Language} {A : Type 0} → o ≡ check_language s → o ≡ Err r → language_of s ≡ value l → A
refused_language s {l = l} eo h e = unaccepted h (eo ∙ accepted_language s l e)

pub opened_alone : (s index : List ℕ) → ((l : Language) → entries_of s ≡ some l → Indexed index s l)
    → (l : Language) → language_of s ≡ value l → OpenedAlone s index l
opened_alone s index built l e = let f = language_facts s l e in record { is = e; indexed = built l f.0; apart = f.1 }

-- is_root
pub root_past : (s : List ℕ) (root : ℕ) → 32 ≤ root → (l : Language) → entries_of s ≡ some l → false ≡ is_in l root
root_past s root h l e = by_test (is_in l root) (λ i. let b = in_below s root l e i in absurd (omega arith)) (λ i. sym i)

-- What is known of a language and a root that were accepted together.
pub rooted_is : (s : List ℕ) (root : ℕ) (l : Language) → rooted_of s root ≡ value l → (language_of s ≡ value l) × (is_in l root ≡ true)
unfolding rooted_of
rooted_is s root l e =
    let a = step_value (language_of s) _ e in
    let r = refuse_value (not (is_in a.0 root)) Why.UnknownRoot (value a.0) a.2 in
    let z : a.0 ≡ l = value_inj r.1 in
    (a.1 ∙ ap value z, rw z at (true_not (is_in a.0 root) r.0))

pub rooted_opened : (s index : List ℕ) (root : ℕ) → ((l : Language) → language_of s ≡ value l → OpenedAlone s index l)
    → (l : Language) → rooted_of s root ≡ value l → Opened s index root l
rooted_opened s index root opened l e =
    let w = rooted_is s root l e in
    record { alone = opened l w.0; known = w.1; kind = in_below s root l (language_facts s l w.0).0 w.1 }

-- open_language
module _ (s : List ℕ) (root : ℕ) {o : Outcome} (eo : o ≡ check_language s) where
  refused_case : (m : Result Language) {r : Reason} → language_of s ≡ m → checked m ≡ Err r → checked (rooted_of s root) ≡ Err r
  unfolding rooted_of
  refused_case (value l) {r} e h = refused_not {n = 0} {r = r} (sym h)
  refused_case (refused q) e h = cc

  pub open_refused : {r : Reason} → o ≡ Err r → Err r ≡ checked (rooted_of s root)
  unfolding check_language
  open_refused h = sym (refused_case (language_of s) refl (sym eo ∙ h))

  module _ {n : ℕ} (accepted : o ≡ Ok n) {x : Bool} (ex : (l : Language) → entries_of s ≡ some l → x ≡ is_in l root) where
    in_is : x ≡ is_in (accepts s eo accepted).language root
    in_is = ex _ (accepts s eo accepted).entries

    pub open_out : x ≡ false → Err Why.UnknownRoot ≡ checked (rooted_of s root)
    unfolding rooted_of
    open_out h = let a = accepts s eo accepted in let i : is_in a.language root ≡ false = sym in_is ∙ h in rw (a.is, i)

    pub open_in : x ≡ true → o ≡ checked (rooted_of s root)
    unfolding rooted_of check_language
    open_in h = let a = accepts s eo accepted in let i : is_in a.language root ≡ true = sym in_is ∙ h in rw (eo, a.is, i)

-- What an operation that begins with opening goes on with: where it was accepted, the language, and where it was refused, the
-- refusal, whatever it does then.
module _ (s : List ℕ) (root : ℕ) where
  accepted_value : (m : Result Language) {n : ℕ} → rooted_of s root ≡ m → checked m ≡ Ok n → (l : Language) × (rooted_of s root ≡ value l)
  accepted_value (value l) e h = (l, e)
  accepted_value (refused r) {n} e h = refused_not {n = n} {r = r} h

  refused_value_of : (m : Result Language) {r : Reason} → rooted_of s root ≡ m → checked m ≡ Err r → rooted_of s root ≡ refused r
  refused_value_of (value l) {r} e h = refused_not {n = 0} {r = r} (sym h)
  refused_value_of (refused q) e h = cc

  module _ {o : Outcome} (eo : o ≡ checked (rooted_of s root)) where
    pub opened_language : {n : ℕ} → o ≡ Ok n → (l : Language) × (rooted_of s root ≡ value l)
    opened_language h = accepted_value (rooted_of s root) refl (sym eo ∙ h)

    pub opened_not : {r : Reason} → o ≡ Err r → rooted_of s root ≡ refused r
    opened_not h = refused_value_of (rooted_of s root) refl (sym eo ∙ h)

-- An operation that asks for the root once the language is there, and one that reads a tree.
module _ {A : Type 0} (root : ℕ) (l : Language) where
  pub root_then : (f : Language → Result A) → refuse_if (not (is_in l root)) Why.UnknownRoot (f l) ≡ (root_in root l >>= f)
  root_then f = go (not (is_in l root))
    where
      go : (t : Bool) → refuse_if t Why.UnknownRoot (f l) ≡ (refuse_if t Why.UnknownRoot (value l) >>= f)
      go true = refl
      go false = refl

  pub tree_then : (b : List ℕ) (f : Language → Code → Result A)
      → (tree_of l root b >>= f l) ≡ (root_in root l >>= λ l. whole_tree (read tree l [] tree_levels root b) >>= f l)
  unfolding tree_of
  tree_then b f = go (not (is_in l root)) (whole_tree (read tree l [] tree_levels root b)) refl
    where
      go : (t : Bool) (m : Result Code) → whole_tree (read tree l [] tree_levels root b) ≡ m
          → (refuse_if t Why.UnknownRoot m >>= f l) ≡ (refuse_if t Why.UnknownRoot (value l) >>= λ l. whole_tree (read tree l [] tree_levels root b) >>= f l)
      go true m e = refl
      go false m e = ap (λ (o : Result Code). o >>= f l) (sym e)

step_step : {A B C : Type 0} (m : Result A) (f : A → Result B) (g : B → Result C) → (m >>= λ a. f a >>= g) ≡ (m >>= f >>= g)
step_step (value a) f g = refl
step_step (refused r) f g = refl

module _ {A : Type 0} (s : List ℕ) (root : ℕ) where
  pub rooted_steps : (f : Language → Result A) → (language_of s >>= λ l. refuse_if (not (is_in l root)) Why.UnknownRoot (f l)) ≡ (rooted_of s root >>= f)
  unfolding rooted_of
  rooted_steps f = (λ i. language_of s >>= λ l. root_then root l f i) ∙ step_step (language_of s) (root_in root) f

  pub rooted_tree_then : (b : List ℕ) (f : Language → Code → Result A)
      → (language_of s >>= λ l. tree_of l root b >>= f l) ≡ (rooted_of s root >>= λ l. whole_tree (read tree l [] tree_levels root b) >>= f l)
  unfolding rooted_of
  rooted_tree_then b f = (λ i. language_of s >>= λ l. tree_then root l b f i) ∙ step_step (language_of s) (root_in root) (λ l. whole_tree (read tree l [] tree_levels root b) >>= f l)

pub rooted_tree : (s : List ℕ) (root : ℕ) (b : List ℕ) → (language_of s >>= λ l. tree_of l root b) ≡ (rooted_of s root >>= λ l. whole_tree (read tree l [] tree_levels root b))
unfolding tree_of
rooted_tree s root b = rooted_steps s root (λ l. whole_tree (read tree l [] tree_levels root b))

-- What reading from the first byte on asks.
pub opened_ready : (s index : List ℕ) (root : ℕ) (l : Language) → Opened s index root l → (b : List ℕ) → Ready index s root b 0
opened_ready s index root l o b = record { sound = o.alone.indexed.sound; kind = o.kind; inside = omega arith }
