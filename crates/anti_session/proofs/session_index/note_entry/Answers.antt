use Rattle.std.proofs.Common.{Bool, sym, ap, ◌∙◌}
use Rattle.std.proofs.lemmas.Result.{on_ok_weaker}
use Rattle.anti_past.specs.inner.Reading.{noted_for, with_place}
use Rattle.anti_past.proofs.InSpan.{in_by_key, in_none}
use Rattle.anti_session.proofs.session_index.note_entry.Goals as goal

pub returns-in-Some : goal.returns-in-Some
returns-in-Some c = λ q.
    let e = c.args.entry.now in
    on_ok_weaker c.note_under.result
    (λ is. is ∙ ap (λ (t : Bool). with_place t c.args.index (noted_for c.args.spans.now q))
    (sym (in_by_key e c.in-Some.key (sym c.key_of.ensures ∙ c.in-Some.is) q)))
    (c.note_under.ensures q)

pub returns-in-None : goal.returns-in-None
returns-in-None c = λ q.
    let e = c.args.entry.now in
    ap (λ (t : Bool). with_place t c.args.index (noted_for c.args.spans.now q)) (sym (in_none e (sym c.key_of.ensures ∙ c.in-None.is) q))
