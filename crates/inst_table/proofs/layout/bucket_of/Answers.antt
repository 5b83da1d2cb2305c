use Rattle.std.proofs.Common.{ℕ, ap, ◌∙◌, fold}
use Rattle.std.specs.Int.{to_le_bytes}
use Rattle.std.specs.Int.RustNames.{bit_xor}
use mir.Syntax.{w64}
use Rattle.inst_table.proofs.Buckets.{bucket_by_words}
use Rattle.inst_table.proofs.layout.bucket_of.Goals as goal

pub returns-clause-value : goal.returns-clause-value
returns-clause-value c = c.fold_bytes.ensures ∙ ap (λ (w : ℕ). fold bit_xor 0 (to_le_bytes w64 w)) c.fold_words.ensures ∙ bucket_by_words c.args.key.now
