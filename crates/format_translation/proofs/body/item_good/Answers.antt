use mathlib.Core.Path.{refl}
use native.Mathlib.Omega.{arith}
use Rattle.format_fields.proofs.Places.{size_of}
use Rattle.format_translation.proofs.Items.{good_mapping, good_clause, good_numbered, good_numbered_clause, good_neither}
use Rattle.format_translation.proofs.body.item_good.Goals as goal

pub mapping_whole-requires : goal.mapping_whole-requires
mapping_whole-requires c = (omega (arith, c.requires.past, c.requires.fits), size_of _ _ _ c.requires.is)

pub returns-then-tag-eq-MAPPING : goal.returns-then-tag-eq-MAPPING
returns-then-tag-eq-MAPPING c = good_mapping _ _ _ refl c.if-tag-eq-MAPPING.true _ c.mapping_whole.ensures

pub clause_whole-requires : goal.clause_whole-requires
clause_whole-requires c = (omega (arith, c.requires.past, c.requires.fits), size_of _ _ _ c.requires.is)

pub returns-then-tag-eq-CLAUSE : goal.returns-then-tag-eq-CLAUSE
returns-then-tag-eq-CLAUSE c = good_clause _ _ _ refl c.if-tag-eq-MAPPING.false c.if-tag-eq-CLAUSE.true _ c.clause_whole.ensures

pub numbered_mapping_whole-requires : goal.numbered_mapping_whole-requires
numbered_mapping_whole-requires c = (omega (arith, c.requires.past, c.requires.fits), size_of _ _ _ c.requires.is)

pub returns-then-tag-eq-NUMBERED : goal.returns-then-tag-eq-NUMBERED
returns-then-tag-eq-NUMBERED c = good_numbered _ _ _ refl c.if-tag-eq-MAPPING.false c.if-tag-eq-CLAUSE.false c.if-tag-eq-NUMBERED.true _ c.numbered_mapping_whole.ensures

pub numbered_clause_whole-requires : goal.numbered_clause_whole-requires
numbered_clause_whole-requires c = (omega (arith, c.requires.past, c.requires.fits), size_of _ _ _ c.requires.is)

pub returns-then-tag-eq-NUMBERED_CLAUSE : goal.returns-then-tag-eq-NUMBERED_CLAUSE
returns-then-tag-eq-NUMBERED_CLAUSE c = good_numbered_clause _ _ _ refl c.if-tag-eq-MAPPING.false c.if-tag-eq-CLAUSE.false c.if-tag-eq-NUMBERED.false c.if-tag-eq-NUMBERED_CLAUSE.true _ c.numbered_clause_whole.ensures

pub returns : goal.returns
returns c = good_neither _ _ _ refl c.if-tag-eq-MAPPING.false c.if-tag-eq-CLAUSE.false c.if-tag-eq-NUMBERED.false c.if-tag-eq-NUMBERED_CLAUSE.false
