use Rattle.std.proofs.Common.{◌≡◌, ◌<◌, List, length, get_or, Some, sym, ap, ◌∙◌, arith}
use Rattle.std.proofs.lemmas.Bool.{ltb-false}
use Rattle.std.proofs.lemmas.Option.{slice_get-get_or}
use Rattle.anti_replicas.specs.declared.kept_write.KeptWrite.{KeptWrite}
use Rattle.anti_replicas.proofs.Bringing.{next_nowhere, next_over, next_found, next_is_there}
use Rattle.anti_replicas.proofs.replicas.Replicas.next_ship.Goals as goal

pub returns-then-not-is_replica : goal.returns-then-not-is_replica
returns-then-not-is_replica c = λ s h at.
    sym (next_nowhere s h c.args.region (sym (c.is_replica.ensures s h at) ∙ c.if-not-is_replica.true))

pub returns-in_err-kept : goal.returns-in_err-kept
returns-in_err-kept c = λ s h at.
    let replica = sym (c.is_replica.ensures s h at) ∙ c.if-not-is_replica.false in
    let past = ltb-false c.upto.result (length c.as_slice.result.now) (sym c.in_err-kept.ensures.lookup.0) in
    c.from_residual.ensures
    ∙ sym (next_over c.args.self.now s h at c.args.region replica (omega (arith, past, ap length c.as_slice.ensures.value, c.upto.ensures s h at)))

pub returns-in_err-part : goal.returns-in_err-part
returns-in_err-part c = λ s h at.
    let m = c.args.self.now in
    let k = c.in_ok-kept.kept.now in
    let replica = sym (c.is_replica.ensures s h at) ∙ c.if-not-is_replica.false in
    let its : k ≡ get_or m.kept.items c.upto.result k = c.in_ok-kept.ensures.lookup.1 ∙ ap (λ (ks : List KeptWrite). get_or ks c.upto.result k) c.as_slice.ensures.value in
    let within : c.upto.result < length m.kept.items = omega (arith, c.in_ok-kept.ensures.lookup.3.0, ap length c.as_slice.ensures.value) in
    absurd (next_is_there m s h at c.args.region replica c.upto.result (c.upto.ensures s h at) k (slice_get-get_or m.kept.items c.upto.result k within ∙ ap Some (sym its))
    (sym c.first_missing.ensures ∙ c.in_err-part.was))

pub returns : goal.returns
returns c = λ s h at.
    let m = c.args.self.now in
    let k = c.in_ok-kept.kept.now in
    let replica = sym (c.is_replica.ensures s h at) ∙ c.if-not-is_replica.false in
    let its : k ≡ get_or m.kept.items c.upto.result k = c.in_ok-kept.ensures.lookup.1 ∙ ap (λ (ks : List KeptWrite). get_or ks c.upto.result k) c.as_slice.ensures.value in
    let within : c.upto.result < length m.kept.items = omega (arith, c.in_ok-kept.ensures.lookup.3.0, ap length c.as_slice.ensures.value) in
    sym (next_found m s h at c.args.region replica c.upto.result (c.upto.ensures s h at) k (slice_get-get_or m.kept.items c.upto.result k within ∙ ap Some (sym its))
    c.in_ok-part.part (sym c.first_missing.ensures ∙ c.in_ok-part.was))
