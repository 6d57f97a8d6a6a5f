use Rattle.std.proofs.Common.{◌≡◌, ◌≤◌, ◌++◌, length, drop}
use Rattle.std.specs.List.{flat_map}
use Rattle.anti_text.specs.inner.Runs.{IsRun, kept_text, run_text}
use Rattle.anti_text.proofs.id_texts.IdTexts.in_step.Given as goal

-- the run and the ids that are left have the text that the first run and all ids have
abbrev pub invariant-loop-id : goal.invariant-loop-id
invariant-loop-id l = record {
  text : run_text l.self.pieces l.run ++ flat_map (kept_text l.self.stores.items) l.ids ≡ run_text l.self.pieces l.fn.run ++ flat_map (kept_text l.self.stores.items) l.fn.ids;
  run : IsRun l.self.pieces l.run;
  less : length l.ids ≤ length l.fn.ids;
  rest : drop l.run.to l.self.written.ids.items ≡ l.rest;
}

abbrev pub decreases-loop-id : goal.decreases-loop-id
decreases-loop-id l = length l.ids
