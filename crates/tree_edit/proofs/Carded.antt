-- The edit with a card: a law for each return of `edit`.
use Rattle.std.specs.Prelude.{Err, Ok}
use Rattle.std.specs.Prelude.{Result as Answered}
use Prim.Native.Nat.{ℕ, ◌<◌}
use mathlib.Core.Path.{◌≡◌, sym, ap, ◌∙◌}
use mathlib.Core.Bool.{Bool, true, false, not, ◌||◌}
use mathlib.Core.List.{List}
use mathlib.Core.Option.{some}
use native.Mathlib.Omega.{arith}
use lib.ListN.{length, get_or}
use Rattle.format_fields.specs.Lists.{same_numbers}
use Rattle.outcome.specs.Outcome.{Result, value, refused, refuse_if, ◌>>=◌, reason_number, Outcome}
use Rattle.outcome.specs.declared.Reason.{Reason}
use Rattle.outcome.specs.declared.Reason.TheVariants.{NotIndexed}
use Rattle.format_fields.proofs.Codec.{refused_value}
use Rattle.format_language.specs.Language.{Language}
use Rattle.format_language.specs.LanguageFile.{entries_of, language_of}
use Rattle.tree_reader.specs.Code.{Code}
use Rattle.tree_reader.specs.Operations.{tree_of}
use Rattle.tree_reader.specs.Inner.Index.{Indexed}
use Rattle.tree_index.specs.Spans.{index_of}
use Rattle.tree_index.specs.Operations.{is_long, indexed_tree, check_indexed}
use Rattle.tree_index.proofs.Starts.{own_entered}
use Rattle.tree_index.proofs.Checking.{tree_bytes}
use Rattle.tree_index.proofs.Owning.{Owned, accepted_own, owned_small, owned_there}
use Rattle.format_card.specs.Card.{Card, sees, card_of}
use Rattle.format_card.specs.Inner.Sets.{Holds, Reads, with_card}
use Rattle.format_card.proofs.Refusals.{same_refusal, with_card_accepted, together_with_card}
use Rattle.format_card.proofs.Trees.{tree_high}
use Rattle.tree_block.specs.Blocks.{block_of, block_at}
use Rattle.tree_block.specs.Operations.{found}
use Rattle.tree_block.specs.Inner.Descent.{SetOf}
use Rattle.tree_edit.specs.Operations.{new_block, new_plan, edit_plan, in_rooms, edit_tree}
use Rattle.tree_edit.specs.Answers.{Hands}
use Rattle.tree_edit.specs.Inner.Moving.{Owns, path_in, Gives, edited}
use Rattle.tree_edit.specs.declared.edit.Lengths.{Lengths}
use Rattle.tree_edit.proofs.Planning.{gives_refused}

-- The set that was read of a card has, for the descent, the kinds that the card sees.
pub set_of_card : (kinds : ℕ) (card : Card) → Holds kinds card → SetOf kinds (sees card)
set_of_card kinds card h k q = h k

-- A plan with an index is refused by 14 to 16 and 22.
own_high : (l : Language) (k : ℕ) (b i : List ℕ) (p : Reason) → indexed_tree l k b i ≡ refused p → 13 < reason_number p
unfolding indexed_tree
own_high l k b i p e = go (tree_of l k b) (tree_high l k b p) e
  where
    by_index : (other : Bool) (t : Code) → refuse_if other NotIndexed (value t) ≡ refused p → 13 < reason_number p
    by_index true t h = rw (← same_refusal {A = Code} h) (omega arith)
    by_index false t h = refused_value (sym h)

    go : (m : Result Code) → (m ≡ refused p → 13 < reason_number p)
        → (m >>= λ t. refuse_if (is_long b || not (same_numbers i (index_of t))) NotIndexed (value t)) ≡ refused p → 13 < reason_number p
    go (value t) g h = by_index (is_long b || not (same_numbers i (index_of t))) t h
    go (refused r) g h = g h

module _ (s : List ℕ) (root : ℕ) (c b i : List ℕ) {own seen low : Outcome}
    (eo : own ≡ check_indexed s root b i) (ec : Reads (card_of c) seen) (el : low ≡ with_card own seen) where
  plan_refused : (path block : List ℕ) {y : Reason} → low ≡ Err y → edit_plan s root b i path c block ≡ refused y
  unfolding edit_plan check_indexed
  plan_refused path block {y} q =
      together_with_card (λ l. indexed_tree l root b i) (λ l p e. omega (arith, own_high l root b i p e))
      (λ l card t. found (block_at (sees card) l path (block_of 0 root t)) >>= λ d. new_block l path d block >>= λ u. new_plan path u t) c (language_of s) seen ec
      (rw eo at (sym el ∙ q))

  pub edit_refused : (path block plan index : List ℕ) {y : Reason} → low ≡ Err y → Hands (edit_tree s root b i path c block plan index) plan index (edited (Err y))
  unfolding edit_tree
  edit_refused path block plan index q =
      gives_refused (edit_plan s root b i path c block >>= λ v. in_rooms (length plan) (length index) v) plan index
      (ap (λ (m : Result Code). m >>= λ v. in_rooms (length plan) (length index) v) (plan_refused path block q))

  -- What was accepted: a card by the set of its kinds, and a plan of a language with its index.
  pub record Legal (kinds n : ℕ) : Type 0 where
    pub card : Card
    pub card_is : card_of c ≡ value card
    pub holds : Holds kinds card
    pub accepted : own ≡ Ok n
    pub owned : Owned s root b i

  pub legal : {kinds : ℕ} → low ≡ Ok kinds → (n : ℕ) × Legal kinds n
  legal {kinds} h =
      let w = with_card_accepted own seen (sym el ∙ h) in
      let v = ec.holds kinds w.1 in
      (w.0.0, record { card = v.0; card_is = v.1; holds = v.2; accepted = w.0.1; owned = accepted_own s root b i (sym eo ∙ w.0.1) })

  module _ {kinds n : ℕ} (w : Legal kinds n) where
    pub root_small : root < 32
    root_small = owned_small s root b i w.owned.language w.owned.subject w.owned.by

    pub owns : (places : List ℕ) → ((j : ℕ) → get_or b j 0 < 256) → ((m : ℕ) (l : Language) → own ≡ Ok m → entries_of s ≡ some l → Indexed places s l)
        → Owns places s b i root w.owned.language w.owned.subject
    owns places bytes indexed =
        let o = w.owned in
        record {
          plan = sym (tree_bytes o.language root b o.subject bytes o.by.tree_is);
          own = o.by.own;
          along = record {
            there = owned_there s root b i o.language o.subject o.by places bytes (λ l e. indexed n l w.accepted e);
            entered = own_entered i o.subject o.by.own;
            short = o.by.short;
          };
        }

    pub edit_given : (path block plan index : List ℕ) {plan' index' : List ℕ} (r : Answered Lengths Reason)
        → Gives (path_in (length plan) (length index) w.owned.language path (block_at (sees w.card) w.owned.language path (block_of 0 root w.owned.subject)) block w.owned.subject) plan plan' index index' r
        → Hands (edit_tree s root b i path c block plan index) plan' index' (edited r)
    unfolding edit_tree edit_plan
    edit_given path block plan index r g = let o = w.owned.by in rw (o.is, w.card_is, o.indexed_is) g
