use Rattle.writer.proofs.Written.{Standing}
use Rattle.writer.proofs.write_layout.Given as goal

abbrev pub invariant-loop-k : goal.invariant-loop-k
invariant-loop-k l = Standing l.lengths l.symbols l.initial.out l.k-index l.from l.at l.f l.marked l.out
