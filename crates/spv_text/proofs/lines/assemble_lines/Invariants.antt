use Rattle.std.proofs.Common.{◌≡◌, ◌+◌, ◌≤◌, length}
use Rattle.limits.specs.declared.TheConstants.{MODULE_WORDS}
use Rattle.listing_model.specs.declared.fault.TheConstants.{LISTING_BYTES}
use Rattle.listing_model.specs.Assembly.{assembled_from, lines_in}
use Rattle.spv_text.proofs.lines.assemble_lines.Given as goal

-- what comes of the lines that are left is what comes of all
abbrev pub invariant-loop-text : goal.invariant-loop-text
invariant-loop-text l = record {
  same : assembled_from (l.line + 1) l.words.items (lines_in l.lines) ≡ assembled_from 2 l.fn.words.items (lines_in l.fn.lines);
  few : length l.words.items ≤ MODULE_WORDS;
  numbered : l.line + length l.lines ≤ LISTING_BYTES + 2;
}

abbrev pub decreases-loop-text : goal.decreases-loop-text
decreases-loop-text l = length l.lines
