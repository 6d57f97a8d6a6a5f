use Rattle.std.proofs.Common.{◌≡◌, ◌+◌, List, length, Ok, Err, Result, OnOk, refl, subst, ◌∙◌}
use Rattle.std.specs.Prelude.{unwrap_or}
use Rattle.anti_ids.specs.declared.id.WriteId.{WriteId}
use Rattle.anti_ids.specs.declared.memory.NoMemory.{NoMemory}
use Rattle.anti_kind.specs.declared.call.Reply.TheVariants.{Written}
use Rattle.anti_replicas.specs.inner.Standing.{Keeps}
use Rattle.anti_replicas.proofs.Standing.{writable, stands_write}
use Rattle.anti_replicas.proofs.replicas.Replicas.write.Goals as goal

on_ok : {T : Type 0} (r : Result T NoMemory) (P G : Type 0) → OnOk r P → (P → G) → OnOk r G
on_ok (Ok v) P G p make = make p
on_ok (Err e) P G p make = tt

pub keep-requires : goal.keep-requires
keep-requires c = writable c.args.self.now c.args.value.now c.args.lineage.now c.args.reply.now c.requires

pub returns-clause-stands : goal.returns-clause-stands
returns-clause-stands c = λ s h e name at f is given.
    let m = c.args.self.now in
    let key = c.get.result.now in
    let lineage = c.args.lineage.now in
    let told = c.in-Written.over in
    let version = length m.kept.items + 1 in
    let said : e.reply ≡ Written key c.in-Written.version told = rw c.get.ensures (given ∙ c.in-Written.is) in
    on_ok c.keep.result (Keeps m c.keep.new.self (record { key = key; version = version; value = c.args.value.now; lineage = unwrap_or told lineage })) _
    (subst (λ (l : List WriteId). OnOk c.keep.result (Keeps m c.keep.new.self (record { key = key; version = version; value = c.args.value.now; lineage = l }))) c.kept_beside.ensures c.keep.ensures.ok)
    (λ keeps. stands_write m c.keep.new.self s h e name key c.args.value.now lineage told version c.in-Written.version at f is said refl keeps)
