use Rattle.std.proofs.Common.{◌≡◌, vec_len}
use Rattle.thread_tests.proofs.instance_tests.many_keys.Given as goal

abbrev pub invariant-loop-word : goal.invariant-loop-word
invariant-loop-word l = vec_len l.keys ≡ l.word
