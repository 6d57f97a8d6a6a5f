use Rattle.std.proofs.Common.{◌<◌, ◌++◌, List, [], ◌∷◌, length, sym, ap, ◌∙◌, subst}
use Rattle.std.specs.Prelude.{slice_set}
use Rattle.anti_proc.specs.declared.process.Process.{Process}
use Rattle.anti_trace.specs.declared.processes.AtObject.{AtObject}
use Rattle.anti_trace.specs.inner.Living.{Changes, has_spare}
use Rattle.anti_trace.proofs.Changed.{at_object, born_here, changes_set}
use Rattle.anti_trace.proofs.processes.Processes.put.Goals as goal

pub push_reserved-requires : goal.push_reserved-requires
push_reserved-requires c =
    let here : AtObject = c.index_mut-here.result.now in
    subst has_spare (at_object c.args.self.now.at.items c.args.object here c.index_mut-here.ensures.value c.requires.object) c.requires.room

pub returns : goal.returns
returns c =
    let all : List AtObject = c.args.self.now.at.items in
    let o = c.args.object in
    let here : AtObject = c.index_mut-here.result.now in
    let new : AtObject = record { born = c.push_reserved.new.self } in
    let is = c.index_mut-here.ensures.value in
    let within : o < length all = c.requires.object in
    subst (Changes all (slice_set all o new) o)
    (c.push_reserved.ensures.items ∙ ap (λ (ps : List Process). ps ++ c.args.process ∷ []) (sym (born_here all o here is within)))
    (changes_set all o here new is within)
