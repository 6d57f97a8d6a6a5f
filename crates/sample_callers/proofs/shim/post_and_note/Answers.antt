use Rattle.std.proofs.Common.{◌≡◌, Ok, Err, Result, OnErr, inr, sym, subst}
use Rattle.sample_callers.specs.Turns.{Carries}
use Rattle.sample_callers.proofs.Carrying.{carries, stays, carried_on}
use Rattle.sample_callers.proofs.shim.post_and_note.Goals as goal

on_err : {T E P : Type 0} (r : Result T E) → P → OnErr r P
on_err (Ok x) holds = tt
on_err (Err e) holds = holds

pub returns-in_err-noted-clause-err : goal.returns-in_err-noted-clause-err
returns-in_err-noted-clause-err g c =
    let first = carries _ _ _ _ _ _ _ c.in_ok-posted.ensures.answer in
    let same : c.write-2.new.lineage ≡ c.write.new.lineage = stays _ _ _ _ _ _ _ c.in_err-noted.ensures.answer in
    on_err c.from_residual-in_err-noted.result (inr (c.in_ok-posted.posted, first.1, subst (Carries c.in_ok-posted.posted c.args.lineage.now) (sym same) first.0))

pub returns-clause-carried : goal.returns-clause-carried
returns-clause-carried g c =
    let first = carries _ _ _ _ _ _ _ c.in_ok-posted.ensures.answer in
    let second = carries _ _ _ _ _ _ _ c.in_ok-noted.ensures.answer in (
      carried_on c.in_ok-posted.posted c.in_ok-noted.noted c.args.lineage.now c.write.new.lineage c.write-2.new.lineage first.0 second.0,
      record { write = second.0.write; before = λ i was. second.0.before i (first.0.before i was) },
    )

pub returns-clause-stored : goal.returns-clause-stored
returns-clause-stored g c = (
  c.write.new.lineage,
  (carries _ _ _ _ _ _ _ c.in_ok-posted.ensures.answer).0,
  record {
    starts = g.P.Port.start c.write.new.port;
    same = c.write.ensures.fixed;
    views = g.P.Port.view c.write.new.port;
    who = c.write.new.who;
    first = c.in_ok-posted.ensures.answer;
    second = c.in_ok-noted.ensures.answer;
  },
)
