-- `input::Sections::decode` lends a part of all words for each section. Assumes nothing.
use mathlib.Core.Path.{◌∙◌}
use Rattle.input.proofs.Words.{section-words, part_in_words}
use Rattle.input.proofs.Sections.decode.Goals as goal

pub part-requires : goal.part-requires
part-requires c = part_in_words _ _ c.decode_all-words.ensures _ c.requires.inside.template

pub part-requires-2 : goal.part-requires-2
part-requires-2 c = part_in_words _ _ c.decode_all-words.ensures _ c.requires.inside.script

pub part-requires-3 : goal.part-requires-3
part-requires-3 c = part_in_words _ _ c.decode_all-words.ensures _ c.requires.inside.bookings

pub returns-clause-template : goal.returns-clause-template
returns-clause-template c =
    c.part.ensures ∙ section-words _ _ c.decode_all-words.ensures _ c.requires.inside.template

pub returns-clause-script : goal.returns-clause-script
returns-clause-script c = c.part-2.ensures ∙ section-words _ _ c.decode_all-words.ensures _ c.requires.inside.script

pub returns-clause-bookings : goal.returns-clause-bookings
returns-clause-bookings c =
    c.part-3.ensures ∙ section-words _ _ c.decode_all-words.ensures _ c.requires.inside.bookings
