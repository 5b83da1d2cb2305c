use Rattle.std.proofs.Common.{ℕ, ◌==◌, List, length, ap, sym, subst, arith, Vec, Global}
use Rattle.std.specs.Prelude.{Result}
use Rattle.listing_model.specs.declared.fault.TextFault.{TextFault}
use Rattle.listing_model.specs.Assembly.{lacks_memory}
use Rattle.spv_text.specs.Answers.{Gives}
use Rattle.spv_text.proofs.Assembling.{assembled_on, head_fault, too_long}
use Rattle.spv_text.proofs.SplitParts.{parts_few}
use Rattle.spv_text.proofs.lines.assembled_words.Goals as goal

pub returns-then-bytes-gt-LISTING_BYTES : goal.returns-then-bytes-gt-LISTING_BYTES
returns-then-bytes-gt-LISTING_BYTES c = record { gives = too_long c.args.bytes.now c.if-bytes-gt-LISTING_BYTES.true }

pub returns-in-Err : goal.returns-in-Err
returns-in-Err c =
    record { gives = head_fault c.args.bytes.now c.new-lines.result c.in-Err.cause c.if-bytes-gt-LISTING_BYTES.false c.new-lines.ensures c.in-Err.ensures.gives }

pub assemble_lines-requires-clause-lines : goal.assemble_lines-requires-clause-lines
assemble_lines-requires-clause-lines c =
    omega (arith, c.in-Ok.ensures.fewer, ap (λ (ps : List (List ℕ)). length ps) c.new-lines.ensures, parts_few (λ b. b == 10) c.args.bytes.now, c.if-bytes-gt-LISTING_BYTES.false)

pub returns-in-Ok-header : goal.returns-in-Ok-header
returns-in-Ok-header c =
    record {
      gives =
          subst (λ (e : Result (List ℕ) TextFault). Gives {X = Vec ℕ Global} {Y = List ℕ} lacks_memory (λ words. words.items) e c.assemble_lines.result)
          (sym (assembled_on c.args.bytes.now c.new-lines.result c.head_line.new.lines c.in-Ok.bound c.in-Ok-header.words.items c.if-bytes-gt-LISTING_BYTES.false
          c.new-lines.ensures c.in-Ok.ensures.gives.0 c.in-Ok.ensures.gives.1 c.in-Ok-header.ensures))
          c.assemble_lines.ensures;
    }
