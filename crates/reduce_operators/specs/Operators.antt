-- The signs' values (paper 01, "Rules, from document 000, appendices A to C"; with numbers, paper 02, 2026-13).
use Rattle.std.specs.Prelude.{ℕ, suc, Bool, true, false, not, ◌&&◌, ◌||◌, List, [], ◌∷◌, ◌++◌, map, ltb, eqb}
use Rattle.outcome.specs.Outcome.{Result, value, refuse_if}
use Rattle.outcome.specs.declared.Reason.TheVariants.{SumUnfit, JoinUnfit, NumberUnfit}
use Rattle.format_fields.specs.Lists.{all, keep, is_some, concat_map}
use Rattle.format_fields.specs.Keyed.{union, without, within, agree}
use Rattle.format_language.specs.Language.{Entry, class, production, Language, entry_key, same_entry, range_within, is_in, arguments_of, clashes}
use Rattle.tree_reader.specs.Code.{node, argument, Codes, nil, cons}
use Rattle.tree_reader.specs.Syntax.{write, code}
use Rattle.format_translation.specs.Translation.{Item, mapping, clause, Translation, number_of, item_key, same_item, mapping_of, mapped, numbers_of}
use Rattle.format_translation.specs.Running.{paired, run, clauses_of}
use Rattle.format_translation.specs.WellFormed.{kinds}

-- A sum of languages fits: no kind is a class in one and a result in the other, shared classes have equal ranges,
-- and productions with the same result and name have the same arguments (B.3).
unfoldable pub languages_fit : Language → Language → Bool
languages_fit l m = not (clashes l m) && (not (clashes m l) && agree entry_key same_entry l m)

-- The sum of languages is the union (B.4).
unfoldable pub language_union : Language → Language → Language
language_union l m = union entry_key l m

-- The sum, or 12 where it does not fit.
unfoldable pub language_sum : Language → Language → Result Language
language_sum l m = refuse_if (not (languages_fit l m)) SumUnfit (value (language_union l m))

-- A language without a class of equal kind and range, or a production equal in all (B.6). There is no condition.
unfoldable pub language_without : Language → Language → Language
language_without l m = without same_entry l m

-- A kind that both sources have has each number of the first in the second too.
unfoldable pub number_kept : Translation → Item → Bool
number_kept g (mapping s j t) = not (is_in g.source s) || is_some (mapping_of g.body s j)
number_kept g (clause r p j bytes) = true

-- Shared kinds have the same numbers (paper 02, 2026-13).
unfoldable pub numbers_agree : Translation → Translation → Bool
numbers_agree f g = all (number_kept g) f.body && all (number_kept f) g.body

-- Both sources fit, both targets fit, shared kinds have the same numbers and map alike by each, shared productions have equal
-- code of each number (C.12).
unfoldable pub translations_fit : Translation → Translation → Bool
translations_fit f g =
    languages_fit f.source g.source
    && (languages_fit f.target g.target && (numbers_agree f g && agree item_key same_item f.body g.body))

-- Everything is united (C.13).
unfoldable pub translation_union : Translation → Translation → Translation
translation_union f g = record {
  source = language_union f.source g.source;
  target = language_union f.target g.target;
  body = union item_key f.body g.body;
}

-- The sum, or 12 where it does not fit.
unfoldable pub translation_sum : Translation → Translation → Result Translation
translation_sum f g = refuse_if (not (translations_fit f g)) SumUnfit (value (translation_union f g))

-- An item is still of the source: its kind is in it, or its production.
unfoldable pub is_of : Language → Item → Bool
is_of l (mapping s j t) = is_in l s
is_of l (clause r p j bytes) = is_some (arguments_of l r p)

-- The source without the language; clauses and mappings no longer in it go, the target stays.
unfoldable pub translation_without : Translation → Language → Translation
translation_without f l =
    let source = language_without f.source l in
    record { source = source; target = f.target; body = keep (is_of source) f.body }

-- An entry lies in another: a class in one of its kind that contains its range (paper 02, 2026-01 and 2026-10), a production in
-- an equal one.
unfoldable pub entry_within : Entry → Entry → Bool
entry_within (class k c) (class j d) = eqb k j && range_within c d
entry_within (class k c) (production s q js) = false
entry_within (production r p ks) b = same_entry (production r p ks) b

-- The second's target lies within the first's source (B.8).
unfoldable pub join_fits : Translation → Translation → Bool
join_fits f g = within entry_within g.target f.source

-- No number is above 15: else the join is refused with 26 (paper 02, 2026-13).
unfoldable pub low_number : Item → Bool
low_number a = ltb (number_of a) 16

unfoldable pub numbers_low : Translation → Bool
numbers_low f = all low_number f.body

-- An item of number i of the second, once for each number j that the kind reached has in the first, by i and j paired: a mapping
-- chained, and a code of the second run through the first by j with its uses kept (C.15).
unfoldable pub join_item : Translation → Translation → Item → List Item
join_item f g (mapping s i t) = map (λ j. mapping s (paired i j) (mapped f.body t j)) (numbers_of f.body t)
join_item f g (clause r p i bytes) =
    map (λ j. clause r p (paired i j) (write code (run (clauses_of f) j (clauses_of g r p i)))) (numbers_of f.body (mapped g.body r i))

-- The join of f after g: source of the second, target of the first.
unfoldable pub joined : Translation → Translation → Translation
joined f g = record { source = g.source; target = f.target; body = concat_map (join_item f g) g.body }

-- The join: 26 where an operand has a number above 15, 13 where it does not fit.
unfoldable pub translation_join : Translation → Translation → Result Translation
translation_join f g =
    refuse_if (not (numbers_low f && numbers_low g)) NumberUnfit
    (refuse_if (not (join_fits f g)) JoinUnfit (value (joined f g)))

-- The arguments from number i on, one for each kind.
unfoldable pub arguments_from : ℕ → List ℕ → Codes
arguments_from i [] = nil
arguments_from i (k ∷ ks) = cons (argument i 0) (arguments_from (suc i) ks)

-- The clause of a production that changes nothing: 01 p 03 1 .. 03 k.
unfoldable pub identity_clause : Entry → List Item
identity_clause (class k c) = []
identity_clause (production r p ks) = clause r p 0 (write code (node r p (arguments_from 1 ks))) ∷ []

-- The identity of a language: each kind to itself by number 0 only, each production to itself (C.17).
unfoldable pub identity_of : Language → Translation
identity_of l = record {
  source = l;
  target = l;
  body = map (λ k. mapping k 0 k) (keep (is_in l) kinds) ++ concat_map identity_clause l;
}
