use Rattle.std.proofs.Common.{◌∙◌}
use Rattle.unit_model.specs.Fits.{words_of, words_there}
use Rattle.unit_records.proofs.RecordParts.{vertex_is, fragment_is, some_there, is_full, none_read}
use Rattle.unit_records.proofs.read.unit_of_record.Goals as goal
use Rattle.unit_records.proofs.read.unit_of_record.Goals.{then-is_empty, else-is_empty+in_ok-module_of}

pub module_of-requires : goal.module_of-requires
module_of-requires c =
    let r = c.requires in
    vertex_is c.args.words.now c.parts.result.0.now r (c.parts.ensures (words_of r.vs) (words_there r.fs) r.are.is).0

pub module_of-requires-else-is_empty : goal.module_of-requires-else-is_empty
module_of-requires-else-is_empty c =
    let r = c.requires in
    fragment_is c.parts.result.1.now r.fs r.are.fragment (c.parts.ensures (words_of r.vs) (words_there r.fs) r.are.is).1
    (is_full c.parts.result.1.now c.is_empty.result c.is_empty.ensures c.if-is_empty.false)

pub returns : goal.returns
returns c vs fs are =
    let p = c.parts.ensures (words_of vs) (words_there fs) are.is in (
      c.in_ok-vs.ensures vs are.vertex p.0,
      elim c.if-is_empty.branch [
        | then-is_empty w ↦ w.fs-is ∙ none_read c.parts.result.1.now fs c.is_empty.result c.is_empty.ensures w.if-is_empty.true p.1
        | else-is_empty+in_ok-module_of w ↦ w.fs-is ∙ some_there c.parts.result.1.now fs _ are.fragment p.1
            (is_full c.parts.result.1.now c.is_empty.result c.is_empty.ensures w.if-is_empty.false) w.in_ok-module_of.ensures
      ],
    )
