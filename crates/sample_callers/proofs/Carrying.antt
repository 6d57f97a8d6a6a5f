-- What a lineage has after a write.
use Rattle.std.proofs.Common.{◌≡◌, ℕ, List, ◌∷◌, Result, Ok, Err, sym, ap, ◌∙◌}
use Rattle.std.specs.Prelude.{unwrap_or}
use Rattle.std.proofs.lemmas.Bool.{or_left, or_right}
use Rattle.anti_ids.specs.Ids.{is_id, has_id}
use Rattle.anti_ids.specs.declared.id.WriteId.{WriteId}
use Rattle.anti_ids.proofs.IdLemmas.{is_id-itself, has_id-with_ids}
use Rattle.anti_shim.specs.Shims.{Writes, WriteGives}
use Rattle.anti_shim.specs.Steps.{Step}
use Rattle.anti_shim.specs.declared.caller.Made.{Made}
use Rattle.anti_shim.specs.declared.fault.ShimFault.{ShimFault}
use Rattle.sample_callers.specs.Turns.{Carries}

-- a write that was made is carried, and was made on its store
pub carries : (step : Step) (store : ℕ) (key value : List ℕ) (old new : List WriteId) (id : WriteId) → Writes step store key value old new (Ok id)
    → Carries id old new × (id.store ≡ store)
carries step store key value old new id writes = by_outcome writes.outcome writes.gives where
  by_outcome : (o : Result Made ShimFault) → WriteGives store old new o (Ok id) → Carries id old new × (id.store ≡ store)
  by_outcome (Ok made) (wrote, over, at, reply, (given, new_is, few)) = let kept : List WriteId = unwrap_or over old in (
    record {
      write =
          ap (has_id id) new_is ∙ has_id-with_ids id (wrote ∷ kept) old
          ∙ or_left (has_id id (wrote ∷ kept)) (has_id id old) (or_left (is_id id wrote) (has_id id kept) (ap (is_id id) (sym given) ∙ is_id-itself id));
      before = λ i was. ap (has_id i) new_is ∙ has_id-with_ids i (wrote ∷ kept) old ∙ or_right (has_id i (wrote ∷ kept)) (has_id i old) was;
    },
    ap (λ (x : WriteId). x.store) given ∙ at,
  )
  by_outcome (Err refusal) (same, stays) = absurd (cc)

-- with a fault the lineage stays
pub stays : (step : Step) (store : ℕ) (key value : List ℕ) (old new : List WriteId) (fault : ShimFault) → Writes step store key value old new (Err fault) → new ≡ old
stays step store key value old new fault writes = by_outcome writes.outcome writes.gives where
  by_outcome : (o : Result Made ShimFault) → WriteGives store old new o (Err fault) → new ≡ old
  by_outcome (Ok made) (wrote, over, at, reply, (is, same, many)) = same
  by_outcome (Err refusal) (is, same) = same

-- what one write leaves carried stays so over another
pub carried_on : (id : WriteId) (next : WriteId) (old mid new : List WriteId) → Carries id old mid → Carries next mid new → Carries id old new
carried_on id next old mid new first second = record {
  write = second.before id first.write;
  before = λ i was. second.before i (first.before i was);
}
