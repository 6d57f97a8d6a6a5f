-- A message that was not delivered again has one delivery at most.
use Rattle.std.proofs.Common.{◌≡◌, ℕ, zero, suc, ◌+◌, ◌≤◌, ◌==◌, Bool, true, false, not, cond, ◌||◌, List, [], ◌∷◌, ◌++◌, length, get_or, All, refl, sym, ap, subst, ◌<◌, ◌∙◌, inl, inr, ne_eqb, append-nil, length-append, arith}
use Rattle.std.specs.List.{filter, range_with_len}
use Rattle.std.proofs.lemmas.Bool.{cases_lt, cases_eq}
use Rattle.std.proofs.lemmas.List.Elements.{filter-append}
use Rattle.std.proofs.lemmas.List.FromFn.{get_or-range_with_len, length-range_with_len}
use Rattle.anti_kind.specs.declared.call.Call.{Call}
use Rattle.anti_kind.specs.declared.call.Call.TheVariants.{Post, Repost}
use Rattle.anti_kind.specs.declared.call.Reply.{Reply}
use Rattle.anti_kind.specs.declared.entry.Entry.{Entry}
use Rattle.anti_kind.specs.declared.message.Message.{Message}
use Rattle.anti_kind.specs.declared.message.MessageKind.{MessageKind}
use Rattle.anti_kind.specs.declared.message.MessageKind.TheVariants as kinds
use Rattle.anti_kind.specs.Inbox.{messages, delivered, deliveries, is_taken, free, post_due, inbox_due}
use Rattle.anti_kind.specs.Objects.{inbox, Follows, IsLegal}
use Rattle.anti_kind.proofs.Histories.{by_entries}
use Rattle.anti_kind.proofs.Deliveries.{counted, deliveries_more}
use Rattle.anti_inbox.specs.inner.Fates.{reposts, is_reposted}
use Rattle.anti_inbox.proofs.Lists.{filter-none, filters-length, range_more}
use Rattle.anti_inbox.proofs.Fates.{reposted_more}

-- how often a number stands in a list
abbrev times : ℕ → List ℕ → ℕ
times n ks = length (filter (λ k. k == n) ks)

times-append : (n : ℕ) (xs ys : List ℕ) → times n (xs ++ ys) ≡ times n xs + times n ys
times-append n xs ys = ap length (filter-append (λ k. k == n) xs ys) ∙ length-append (filter (λ k. k == n) xs) (filter (λ k. k == n) ys)

times_one : (n k : ℕ) → (times n (k ∷ []) ≤ 1) × ((k ≡ n → ⊥) → times n (k ∷ []) ≡ 0)
times_one n k = (low (k == n), λ differs. ap (λ (b : Bool). length {A = ℕ} (cond b (k ∷ []) [])) (ne_eqb k n differs)) where
  low : (b : Bool) → length {A = ℕ} (cond b (k ∷ []) []) ≤ 1
  low true = omega arith
  low false = omega arith

-- numbers that are at most m have none above it
times_above : (ks : List ℕ) (m n : ℕ) → All (λ k. (1 ≤ k) × (k ≤ m)) ks → m + 1 ≤ n → times n ks ≡ 0
times_above ks m n within above =
    ap length (filter-none (λ k. k == n) ks (λ i d short. ne_eqb (get_or ks i d) n (λ same. absurd (omega (arith, same, (within i d short).1)))))

-- the numbers from 1 to a count
times_range : (count n : ℕ) → times n (range_with_len 1 count) ≤ 1
times_range zero n = omega arith
times_range (suc count) n =
    let next : suc count ≡ count + 1 = omega arith in
    let more : times n (range_with_len 1 (suc count)) ≡ times n (range_with_len 1 count) + times n ((count + 1) ∷ []) =
    ap (λ (k : ℕ). times n (range_with_len 1 k)) next ∙ ap (times n) (range_more count) ∙ times-append n (range_with_len 1 count) ((count + 1) ∷ []) in
    let one = times_one n (count + 1) in
    let before : times n (range_with_len 1 count) ≤ 1 = times_range count n in
    elim (cases_eq (count + 1) n) [
      | inl same ↦ omega (arith, more, one.0, times_above (range_with_len 1 count) count n below (omega (arith, same)))
      | inr differs ↦ omega (arith, more, one.1 differs, before)
    ]
  where
    below : All (λ k. (1 ≤ k) × (k ≤ count)) (range_with_len 1 count)
    below i d short =
        let in' : i < count = omega (arith, short, length-range_with_len 1 count) in
        let at : get_or (range_with_len 1 count) i d ≡ 1 + i = get_or-range_with_len 1 count i d in' in
        (omega (arith, at), omega (arith, at, in'))

module _ (requests : List Message) where
  abbrev Single : List Entry → Type 0
  Single h = (n : ℕ) → is_reposted h n ≡ false → times n (deliveries requests h) ≤ 1

  -- what an entry delivers of a message that it does not deliver again is new
  module _ (h : List Entry) (e : Entry) (f : Follows (inbox requests) h e) (n : ℕ) where
    abbrev IsNew : List ℕ → Type 0
    IsNew ks = (times n ks ≤ 1) × (n ≤ length (messages requests h) → times n ks ≡ 0)

    next_new : IsNew ((length (messages requests h) + 1) ∷ [])
    next_new =
        let one = times_one n (length (messages requests h) + 1) in
        (one.0, λ within. one.1 (λ same. absurd (omega (arith, same, within))))

    posts_new : (m : Message) (k : MessageKind) → IsNew (delivered (Post m) (post_due requests h k))
    posts_new m kinds.Reply = (omega arith, λ within. refl)
    posts_new m kinds.Request = next_new
    posts_new m kinds.Call = next_new
    posts_new m kinds.Send = next_new

    delivers_new : (c : Call) → e.call ≡ c → reposts n c ≡ false → IsNew (delivered c e.reply)
    delivers_new (Post m) is off =
        let reply : e.reply ≡ post_due requests h m.kind = f.reply ∙ ap (inbox_due requests h) is in
        subst (λ (r : Reply). IsNew (delivered (Post m) r)) (sym reply) (posts_new m m.kind)
    delivers_new (Repost k) is off =
        let none : times n (k ∷ []) ≡ 0 = ap (λ (b : Bool). length {A = ℕ} (cond b (k ∷ []) [])) off in
        (omega (arith, none), λ within. none)
    delivers_new _ is off = (omega arith, λ within. refl)

  single_more : (h : List Entry) (e : Entry) → IsLegal (inbox requests) h → Follows (inbox requests) h e → Single h → Single (h ++ e ∷ [])
  single_more h e l f was n off =
      let parts = neither (is_reposted h n) (reposts n e.call) (sym (reposted_more h e n) ∙ off) in
      let new = delivers_new h e f n e.call refl parts.1 in
      let sum : times n (deliveries requests (h ++ e ∷ [])) ≡ times n (deliveries requests h) + times n (delivered e.call e.reply) =
      ap (times n) (deliveries_more requests h e) ∙ times-append n (deliveries requests h) (delivered e.call e.reply) in
      elim (cases_lt (length (messages requests h)) n) [
        | inl past ↦
            omega (
              arith,
              sum,
              new.0,
              times_above (deliveries requests h) (length (messages requests h)) n (counted requests h l).delivered_within (omega (arith, past)),
            )
        | inr within ↦ omega (arith, sum, new.1 within, was n parts.0)
      ]
    where
      neither : (a b : Bool) → (a || b) ≡ false → (a ≡ false) × (b ≡ false)
      neither true b off = absurd (cc)
      neither false true off = absurd (cc)
      neither false false off = (refl, refl)

  -- and so has it one free delivery at most
  pub free_once : (h : List Entry) (n : ℕ) → IsLegal (inbox requests) h → is_reposted h n ≡ false → length (filter (λ k. k == n) (free requests h)) ≤ 1
  free_once h n legal off =
      let all : times n (deliveries requests h) ≤ 1 =
      by_entries (inbox requests) Single
      (λ k none. omega (arith, ap (times k) (append-nil (range_with_len 1 (length requests))), times_range (length requests) k))
      single_more h legal n off in
      omega (arith, all, filters-length (λ k. k == n) (λ k. not (is_taken h k)) (deliveries requests h))
