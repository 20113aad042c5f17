use Rattle.std.proofs.Common.{sym, ◌∙◌}
use Rattle.xml_text.proofs.Imports.{place_large, place_small}
use Rattle.xml_text.proofs.import.place_of.Goals as goal

pub returns-then-name-ge-NAMES : goal.returns-then-name-ge-NAMES
returns-then-name-ge-NAMES c = place_large _ _ _ c.if-name-ge-NAMES.true

pub returns-then-place-eq0 : goal.returns-then-place-eq0
returns-then-place-eq0 c =
    sym (place_small _ _ _ c.if-name-ge-NAMES.false c.from.ensures c.production_key.ensures.0 c.place_at-place.ensures) ∙ c.if-place-eq0.true

pub returns-else-place-eq0 : goal.returns-else-place-eq0
returns-else-place-eq0 c = (
  place_small _ _ _ c.if-name-ge-NAMES.false c.from.ensures c.production_key.ensures.0 c.place_at-place.ensures,
  c.if-place-eq0.false,
)
