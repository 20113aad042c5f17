-- What the operation answers: a law for each return of the functions of mask.rt.
use Rattle.std.specs.Prelude.{Err, Ok}
use Rattle.tree_reader.specs.declared.node.ReadError.TheVariants.{Deep, Broken}
use Prim.Native.Nat.{ℕ, ◌<◌, ◌≤◌}
use mathlib.Core.Path.{◌≡◌, refl, sym, ap, ◌∙◌}
use mathlib.Core.Bool.{Bool, true, false, not}
use mathlib.Core.List.{List, []}
use native.Mathlib.Omega.{arith}
use lib.ListN.{length, get_or, drop, length-append, drop_of_length-le}
use Rattle.outcome.specs.Outcome.{Result, value, refused, refuse_if, ◌>>=◌, checked, reason_number, Outcome}
use Rattle.outcome.specs.declared.Reason.{Reason}
use Rattle.outcome.specs.declared.Reason.TheVariants as Why
use Rattle.format_fields.proofs.Split.{front}
use Rattle.format_fields.proofs.Codec.{refused_value, bytes_from}
use Rattle.format_language.specs.Language.{Language, is_in}
use Rattle.format_language.specs.LanguageFile.{language_of}
use Rattle.tree_reader.specs.Code.{Code}
use Rattle.tree_reader.specs.Syntax.{Read, done, read, write, tree}
use Rattle.tree_reader.specs.Operations.{tree_levels, whole_tree}
use Rattle.tree_reader.specs.Inner.Index.{Indexed}
use Rattle.tree_reader.specs.Inner.Positions as At
use Rattle.tree_reader.specs.Inner.Positions.{refusal_of, rest_at, rest_of}
use Rattle.tree_reader.specs.declared.node.ReadError.{ReadError}
use Rattle.tree_reader.proofs.Sound.{read_done}
use Rattle.tree_reader.proofs.Meaning.{done_of, deep_of, broken_of}
use Rattle.format_translation.specs.Operations.{fitted}
use Rattle.format_card.specs.Card.{Card, card_of, together}
use Rattle.format_card.specs.Inner.Sets.{Holds, Reads, with_card}
use Rattle.format_card.proofs.Refusals.{same_refusal, with_card_accepted, together_with_card}
use Rattle.check_operations.specs.Inner.Opening.{root_in, rooted_of, Opened}
use Rattle.check_operations.proofs.Opening.{opened_language, tree_then}
use Rattle.check_operations.proofs.Legal.{tree_of_lem}
use Rattle.check_operations.proofs.Answering.{gives_refused, gives_same, gives_long, gives_fit}
use Rattle.tree_mask.specs.Mask.{masked}
use Rattle.tree_mask.specs.Operations.{mask_bytes, mask_tree}
use Rattle.tree_mask.specs.Inner.Masking.{MasksWhole, GivesTree, GivesLegal}
use Rattle.tree_mask.proofs.Masks.{masked_few}

-- What a reading comes to, with so much room.
abbrev result : Language → Card → ℕ → ℕ → Read Code → Result (List ℕ)
result l card k room p = whole_tree p >>= λ t. fitted room (masked l card k t)

-- mask_legal
module _ (s index : List ℕ) (kinds k : ℕ) (b o : List ℕ) where
  module _ {o₁ o₂ : List ℕ} {m : ℕ} (counted : MasksWhole s index kinds k b o₁ o₂ m) where
    pub legal_long : length o < m → GivesLegal s index kinds k b o o (Err Why.OutputTooShort)
    legal_long h l card t z c e = let y = counted l card t z c e in gives_long (masked l card k t) o (omega (arith, y.end)) refl

    pub legal_done : {o' : List ℕ} {n : ℕ} → m ≤ length o → MasksWhole s index kinds k b o o' n → GivesLegal s index kinds k b o o' (Ok m)
    legal_done {o'} h w l card t z c e =
        let x = counted l card t z c e in
        let y = w l card t z c e in
        gives_fit (masked l card k t) o o' (omega (arith, x.end)) (ap Ok (x.end ∙ omega arith)) (y.bytes (omega (arith, x.end, y.end)))

  pub legal_room : ((i : ℕ) → get_or b i 0 < 256) → length b ≤ length o → {o' : List ℕ} {n : ℕ} → MasksWhole s index kinds k b o o' n → GivesLegal s index kinds k b o o' (Ok n)
  legal_room bytes h w l card t z c e =
      let y = w l card t z c e in
      let d = (read_done tree l [] tree_levels k b t [] e).2 (bytes_from b (λ j q. bytes j)) in
      let n = ap length d.0 ∙ length-append (write tree t) [] in
      legal_done w (omega (arith, y.end, n, masked_few l card k t)) w l card t z c e

-- mask_read
module _ (s index : List ℕ) (kinds k : ℕ) (b o : List ℕ) {f : At.Read} (is : (l : Language) → Indexed index s l → rest_at b f ≡ rest_of (read tree l [] tree_levels k b)) where
  pub read_refused : (x : ReadError) → f ≡ Err x → GivesTree s index kinds k b o o (Err (refusal_of x))
  read_refused Deep h l card z c =
      gives_refused _ o Why.TooDeep (ap (result l card k (length o)) (deep_of (read tree l [] tree_levels k b) (sym (is l z) ∙ ap (rest_at b) h))) refl
  read_refused Broken h l card z c =
      gives_refused _ o Why.IllegalTree (ap (result l card k (length o)) (broken_of (read tree l [] tree_levels k b) (sym (is l z) ∙ ap (rest_at b) h))) refl

  module _ {e : ℕ} (ef : f ≡ Ok e) where
    found : (l : Language) → Indexed index s l → (a : Code) × (read tree l [] tree_levels k b ≡ done a (drop e b))
    found l z = done_of (read tree l [] tree_levels k b) (drop e b) (sym (is l z) ∙ ap (rest_at b) ef)

    pub read_left : e ≤ length b → (e ≡ length b → ⊥) → GivesTree s index kinds k b o o (Err Why.IllegalTree)
    read_left inside h l card z c =
        let w = found l z in
        let g : e < length b = omega arith in
        gives_refused _ o Why.IllegalTree (ap (result l card k (length o)) (w.1 ∙ ap (done w.0) (front b e g))) refl

    pub read_whole : e ≡ length b → {o' : List ℕ} {out : Outcome} → GivesLegal s index kinds k b o o' out → GivesTree s index kinds k b o o' out
    read_whole all {o'} g l card z c =
        let w = found l z in
        let y : read tree l [] tree_levels k b ≡ done w.0 [] = w.1 ∙ ap (done w.0) (drop_of_length-le b {i = e} (omega arith)) in
        gives_same _ _ o o' (ap (result l card k (length o)) y) (g l card w.0 z c y)

-- mask_opened
-- The outcome and the output are those of the operation.
abbrev pub AsMask : List ℕ → ℕ → List ℕ → List ℕ → List ℕ → List ℕ → Outcome → Type 0
AsMask s root c b o o' out = (out ≡ (mask_tree s root c b o).outcome) × (o' ≡ (mask_tree s root c b o).output)

-- A root is refused by 14.
root_high : (root : ℕ) (l : Language) (p : Reason) → root_in root l ≡ refused p → 3 < reason_number p
root_high root l p e = go (not (is_in l root)) e
  where
    go : (t : Bool) → refuse_if t Why.UnknownRoot (value l) ≡ refused p → 3 < reason_number p
    go true h = rw (← same_refusal {A = Language} h) (omega arith)
    go false h = refused_value (sym h)

-- What was accepted: a language with its root, and a card by the set of its kinds.
pub record Legal (s : List ℕ) (root : ℕ) (c : List ℕ) (kinds : ℕ) : Type 0 where
  pub language : Language
  pub is : rooted_of s root ≡ value language
  pub card : Card
  pub card_is : card_of c ≡ value card
  pub holds : Holds kinds card

module _ (s : List ℕ) (root : ℕ) (c : List ℕ) {opened card low : Outcome}
    (el : opened ≡ checked (rooted_of s root)) (ec : Reads (card_of c) card) (elow : low ≡ with_card opened card) where
  pub legal : {kinds : ℕ} → low ≡ Ok kinds → Legal s root c kinds
  legal {kinds} h =
      let w = with_card_accepted opened card (sym elow ∙ h) in
      let v = ec.holds kinds w.1 in
      let o = opened_language s root el w.0.1 in
      record { language = o.0; is = o.1; card = v.0; card_is = v.1; holds = v.2 }

  module _ (b o : List ℕ) where
    pub mask_refused : {r : Reason} → low ≡ Err r → AsMask s root c b o o (Err r)
    unfolding mask_tree mask_bytes rooted_of
    mask_refused {r} h =
        let e : with_card (checked (rooted_of s root)) card ≡ Err r = rw el at (sym elow ∙ h) in
        let f : Card → Language → Code → Result (List ℕ) = λ card l t. fitted (length o) (masked l card root t) in
        let same : mask_bytes s root c b (length o) ≡ together (language_of s) (card_of c) (λ l card. root_in root l >>= λ l. whole_tree (read tree l [] tree_levels root b) >>= f card l) =
        λ j. together (language_of s) (card_of c) (λ l card. tree_then root l b (f card) j) in
        gives_refused (mask_bytes s root c b (length o)) o r
        (same ∙ together_with_card (root_in root) (root_high root) (λ k card l. whole_tree (read tree l [] tree_levels root b) >>= f card l) c (language_of s) card ec e) refl

    pub mask_done : {kinds : ℕ} → low ≡ Ok kinds → (index : List ℕ) → ((l : Language) → rooted_of s root ≡ value l → Opened s index root l)
        → (o' : List ℕ) {out : Outcome} → GivesTree s index kinds root b o o' out → AsMask s root c b o o' out
    unfolding mask_tree mask_bytes
    mask_done h index opened o' g =
        let w = legal h in
        let d = opened w.language w.is in
        let t = tree_of_lem w.language root b (read tree w.language [] tree_levels root b) d.known refl in
        rw (d.alone.is, w.card_is, t) (g w.language w.card d.alone.indexed w.holds)
