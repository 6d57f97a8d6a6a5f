use Rattle.std.proofs.Common.{◌≡◌, ◌++◌, length}
use Rattle.std.specs.List.{flat_map}
use Rattle.anti_text.specs.inner.Runs.{IsRun, kept_text, run_text}
use Rattle.anti_text.proofs.id_texts.IdTexts.ids.Given as goal

-- with the ids that are left all is written, but for the run behind those so far
abbrev pub invariant-loop-id : goal.invariant-loop-id
invariant-loop-id l = record {
  written : (l.out ++ run_text l.self.pieces l.run) ++ flat_map (kept_text l.self.stores.items) l.ids ≡ l.initial.out ++ flat_map (kept_text l.self.stores.items) l.lineage;
  run : IsRun l.self.pieces l.run;
}

abbrev pub decreases-loop-id : goal.decreases-loop-id
decreases-loop-id l = length l.ids
