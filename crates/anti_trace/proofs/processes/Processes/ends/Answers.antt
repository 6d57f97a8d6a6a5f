use Rattle.std.proofs.Common.{◌≡◌, ◌++◌, All, List, map, sym, ap, ◌∙◌, subst}
use Rattle.anti_proc.specs.declared.process.Process.{Process}
use Rattle.anti_trace.specs.declared.ends.ProcessEnd.{ProcessEnd}
use Rattle.anti_trace.specs.inner.Living.{LivesItself, born_at}
use Rattle.anti_trace.specs.inner.Shown.{shown_end}
use Rattle.anti_trace.proofs.Changed.{born_found}
use Rattle.anti_trace.proofs.Ended.{each_lives, ends_here, ends_more}
use Rattle.anti_trace.proofs.processes.Processes.ends.Goals as goal

pub loop-here-preserved : goal.loop-here-preserved
loop-here-preserved g c = λ app trace sound legal are after.
    let all = c.args.self.now.at.items in
    let o = c.loop-here.here-index in
    let here : List Process = c.as_slice.result.now in
    let is : born_at all o ≡ here =
    born_found all c.as_slice-here-items.result.now o c.here-item.result c.as_slice-here-items.ensures.value c.here-item.is c.loop-here-test.true
    ∙ sym c.as_slice.ensures.value in
    let lives : All (LivesItself app trace) here = subst (All (LivesItself app trace)) is (each_lives app trace legal all are o) in
    let shown : List ProcessEnd = map (shown_end app trace) here in
    let added : c.add_ends.new.ends.items ≡ c.loop-here.ends.items ++ shown = c.in_ok-add_ends.ensures app trace sound legal lives after in
    added
    ∙ ends_more app trace o c.loop-here.ends.items shown (c.loop-here.invariant app trace sound legal are after)
    (ap (map (shown_end app trace)) (sym is) ∙ ends_here app trace legal all are o)
