use Rattle.std.proofs.Common.{◌++◌, List, Some, filter, length, map, append-nil, sym, ap, ◌∙◌, arith}
use Rattle.anti_ids.specs.List.{Listed}
use Rattle.anti_lang.specs.Bodies.{block_from}
use Rattle.anti_lang.specs.Program.{Block}
use Rattle.anti_lang.specs.Steps.{steps_of}
use Rattle.anti_place.specs.declared.fault.Fault.{Fault}
use Rattle.anti_place.specs.declared.remark.Remark.{Remark}
use Rattle.anti_place.specs.Reviews.{fails_there, faults_of}
use Rattle.anti_place.specs.inner.Joined.{is_later}
use Rattle.anti_place.proofs.Doubting.{all_later}
use Rattle.anti_place.proofs.Adding.{told_more}
use Rattle.anti_place.proofs.Telling.{first_told, next_is, none_left, told_rising}
use Rattle.anti_place.proofs.faults.add_faults.Goals as goal

pub loop-fault-init : goal.loop-fault-init
loop-fault-init c =
    ap (λ (faults : List Fault). c.args.remarks.now.items ++ map (fails_there c.args.target.service c.args.target.handler) faults)
    (all_later (faults_of c.args.called c.args.named (block_from (steps_of c.args.body.now))))

pub loop-fault-smaller : goal.loop-fault-smaller
loop-fault-smaller c =
    let body : Block = block_from (steps_of c.args.body.now) in
    let faults : List Fault = faults_of c.args.called c.args.named body in
    let next =
    next_is faults (told_rising c.args.called c.args.named body) c.loop-fault.after c.in-Some.fault
    (sym (first_told c.args.called c.args.named body c.loop-fault.after) ∙ sym c.in-Some.ensures) in
    let fewer = ap (λ (those : List Fault). length those) next in
    omega (arith, fewer)

pub loop-fault-preserved : goal.loop-fault-preserved
loop-fault-preserved c =
    let body : Block = block_from (steps_of c.args.body.now) in
    let faults : List Fault = faults_of c.args.called c.args.named body in
    let next =
    next_is faults (told_rising c.args.called c.args.named body) c.loop-fault.after c.in-Some.fault
    (sym (first_told c.args.called c.args.named body c.loop-fault.after) ∙ sym c.in-Some.ensures) in
    told_more (fails_there c.args.target.service c.args.target.handler) c.loop-fault.remarks.items _ (filter (is_later c.loop-fault.after) faults)
    (filter (is_later (Some c.in-Some.fault)) faults) c.in-Some.fault c.remark_of.result c.add.new.self.items c.remark_of.ensures
    (ap (λ (l : Listed Remark). l.items) c.in_ok-add.ensures.ok) next c.loop-fault.invariant

pub returns : goal.returns
returns c =
    let body : Block = block_from (steps_of c.args.body.now) in
    let faults : List Fault = faults_of c.args.called c.args.named body in
    let none =
    none_left faults (told_rising c.args.called c.args.named body) c.loop-fault.after
    (sym (first_told c.args.called c.args.named body c.loop-fault.after) ∙ sym c.in_default.ensures) in
    sym (append-nil c.loop-fault.remarks.items)
    ∙ sym (ap (λ (those : List Fault). c.loop-fault.remarks.items ++ map (fails_there c.args.target.service c.args.target.handler) those) none)
    ∙ c.loop-fault.invariant
