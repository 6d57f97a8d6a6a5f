-- The processes that have gone along a trace are of it.
use Rattle.std.proofs.Common.{List, sym, subst}
use Rattle.anti_kind.specs.declared.entry.Entry.{Entry}
use Rattle.anti_trace.specs.Legal.{IsLegalTrace}
use Rattle.test_documents.proofs.absent.is_bare.Goals as goal

pub is_unborn-requires : goal.is_unborn-requires
is_unborn-requires c = record {
  app = c.args.run.now.app;
  trace = c.as_slice.result.now;
  legal = subst (λ (t : List Entry). IsLegalTrace c.args.run.now.app t) (sym c.as_slice.ensures.entries) c.requires.legal;
  are = c.in-Ok.ensures.processes;
}

pub are_placed-requires : goal.are_placed-requires
are_placed-requires c = record {
  app = c.args.run.now.app;
  trace = c.as_slice.result.now;
  legal = subst (λ (t : List Entry). IsLegalTrace c.args.run.now.app t) (sym c.as_slice.ensures.entries) c.requires.legal;
  are = c.in-Ok.ensures.processes;
}
