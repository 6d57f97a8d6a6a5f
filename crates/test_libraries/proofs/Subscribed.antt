-- Stores with two subscriptions, in tests: what they start as is a start.
use Rattle.std.proofs.Common.{◌≡◌, true, ℕ, ◌<◌, List, [], ◌∷◌, Result, Ok, Err, IfOk, sym, subst, arith}
use Rattle.std.specs.List.{Contains}
use Rattle.std.proofs.lemmas.List.Elements.{All-nil, All-cons}
use Rattle.anti_ids.specs.Names.{is_plain}
use Rattle.anti_ids.specs.declared.limits.TheConstants.{MOST_REGIONS}
use Rattle.anti_kind.specs.declared.store_kind.Sub.{Sub}
use Rattle.anti_kind.specs.declared.store_kind.StoreKind.{StoreKind}
use Rattle.anti_kind.specs.declared.store_kind.StoreKind.TheVariants.{Queue, Topic}
use Rattle.anti_kind.specs.Starts.{IsStart, IsStore, HasRoom, HasTries}
use Rattle.anti_kind.specs.Objects.{Start, store}
use Rattle.anti_kind.specs.Machines.{StandsFor}
use Rattle.anti_kind.specs.declared.entry.Entry.{Entry}
use Rattle.anti_kind.specs.Store.{Store, is_replica, store_of}
use Rattle.anti_queue.specs.QueueStarts.{queue_start}
use Rattle.anti_topic.specs.TopicStates.{topic_start}

-- it is to a plain channel in region 0
abbrev IsHere : Sub → Type 0
IsHere sub = Contains (0 ∷ []) sub.region × (is_plain sub.channel ≡ true)

is_here : (sub : Sub) → sub.region ≡ 0 → is_plain sub.channel ≡ true → IsHere sub
is_here sub here plain = ((0, omega arith, sym here), plain)

-- the store 0, of which the only replica is in region 0, with two subscriptions
two_subs : (kind : StoreKind) (tries : ℕ) (a b : Sub) → HasTries kind tries → HasRoom kind 0 → IsHere a → IsHere b
    → IsStore (store_of kind 0 (0 ∷ []) (a ∷ b ∷ []) tries)
two_subs kind tries a b enough none first second = record {
  some = omega arith;
  few = omega arith;
  below = All-cons (λ (g : ℕ). g < MOST_REGIONS) 0 [] (omega arith) (All-nil (λ (g : ℕ). g < MOST_REGIONS));
  distinct = λ i j d less short. absurd (omega arith);
  subscribed = All-cons IsHere a (b ∷ []) first (All-cons IsHere b [] second (All-nil IsHere));
  tries = enough;
  room = none;
}

pub topic_starts : (a b : Sub) → a.region ≡ 0 → is_plain a.channel ≡ true → b.region ≡ 0 → is_plain b.channel ≡ true
    → IsStart (topic_start 0 (0 ∷ []) (a ∷ b ∷ []))
topic_starts a b here_a plain_a here_b plain_b = two_subs Topic 0 a b tt tt (is_here a here_a plain_a) (is_here b here_b plain_b)

-- each message may go out twice
pub queue_starts : (a b : Sub) → a.region ≡ 0 → is_plain a.channel ≡ true → b.region ≡ 0 → is_plain b.channel ≡ true
    → IsStart (queue_start 0 (0 ∷ []) (a ∷ b ∷ []) 2)
queue_starts a b here_a plain_a here_b plain_b = two_subs Queue 2 a b (omega arith, omega arith) tt (is_here a here_a plain_a) (is_here b here_b plain_b)

-- what is made as a store that is numbered 0 and has a replica in region 0
pub is_first : {M E : Type 0} (its : M → Start) (made : Result M E) (s : Store) → s.number ≡ 0 → is_replica s 0 ≡ true → IfOk made (λ m. its m ≡ store s)
    → IfOk made (λ m. (t : Store) × (its m ≡ store t) × (t.number ≡ 0) × (is_replica t 0 ≡ true))
is_first its (Ok m) s number replica is = (s, is, number, replica)
is_first its (Err e) s number replica is = tt

-- what is made so, of which no call was made yet, stands for the empty history
pub stands_new : {M E : Type 0} (its : M → Start) (its_stands : M → List Entry → Type 0) (made : Result M E) (start : Start) → IsStart start
    → IfOk made (λ m. its m ≡ start) → IfOk made (λ m. its_stands m []) → IfOk made (λ m. StandsFor (its m) (its_stands m) [])
stands_new its its_stands (Ok m) start is same there = record { sane = subst IsStart (sym same) is; legal = tt; state = there }
stands_new its its_stands (Err e) start is same there = tt
