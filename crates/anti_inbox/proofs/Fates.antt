-- What became of each message, and what an entry changes of it.
use Rattle.std.proofs.Common.{◌≡◌, ℕ, suc, ◌+◌, map, ◌≤◌, Bool, true, false, ◌||◌, List, [], ◌∷◌, ◌++◌, length, flat_map, slice_get, Option, refl, ap, ◌∙◌, inl, inr, ltb, eqb-true, append-nil, arith}
use Rattle.std.specs.List.{range_with_len, Contains}
use Rattle.std.proofs.lemmas.List.Elements.{All-contains, Contains-append_left, Contains-append_right}
use Rattle.std.proofs.lemmas.List.Folds.{list_any-append}
use Rattle.std.proofs.lemmas.List.FromFn.{map-range_with_len_more}
use Rattle.std.proofs.lemmas.Bool.{false_from_ne_true, lt-ltb, or_cases, or_right, false≢true}
use Rattle.anti_kind.specs.declared.call.Call.{Call}
use Rattle.anti_kind.specs.declared.call.Call.TheVariants.{Repost}
use Rattle.anti_kind.specs.declared.call.Reply.{Reply}
use Rattle.anti_kind.specs.declared.entry.Entry.{Entry}
use Rattle.anti_kind.specs.declared.message.Message.{Message}
use Rattle.anti_kind.specs.Inbox.{messages, delivered, deliveries, takes, is_taken, replied, replies, has_reply, takes_reply, reply_is_taken}
use Rattle.anti_kind.proofs.Rows.{or_false}
use Rattle.anti_kind.proofs.Deliveries.{IsCounted, call_within, taken_more, taken_kept, heard_more, heard_kept, replies_more}
use Rattle.anti_inbox.specs.declared.inbox.Fate.{Fate}
use Rattle.anti_inbox.specs.inner.Fates.{reposts, is_reposted, fate_of, untouched, taken, reposted, answered, heard}

-- fates with the same parts
same_fate : (f g : Fate) → f.taken ≡ g.taken → f.reposted ≡ g.reposted → f.reply ≡ g.reply → f.heard ≡ g.heard → f ≡ g
same_fate f g a r b c =
    ap (λ (x : Bool). record { taken = x; reposted = f.reposted; reply = f.reply; heard = f.heard }) a
    ∙ ap (λ (x : Bool). record { taken = g.taken; reposted = x; reply = f.reply; heard = f.heard }) r
    ∙ ap (λ (x : Option Message). record { taken = g.taken; reposted = g.reposted; reply = x; heard = f.heard }) b
    ∙ ap (λ (x : Bool). record { taken = g.taken; reposted = g.reposted; reply = g.reply; heard = x }) c

pub no_replies : (h : List Entry) (n : ℕ) → has_reply h n ≡ false → replies h n ≡ []
no_replies h n none = by_list (replies h n) none where
  by_list : (ms : List Message) → ltb 0 (length ms) ≡ false → ms ≡ []
  by_list [] off = refl
  by_list (m ∷ ms) off = let on : ltb 0 (suc (length ms)) ≡ true = lt-ltb 0 (suc (length ms)) (omega arith) in absurd (cc)

-- Deliveries made again.

pub reposted_more : (h : List Entry) (e : Entry) (n : ℕ) → is_reposted (h ++ e ∷ []) n ≡ (is_reposted h n || reposts n e.call)
reposted_more h e n =
    list_any-append (λ (x : Entry). reposts n x.call) h (e ∷ []) ∙ ap (λ (b : Bool). is_reposted h n || b) (or_false (reposts n e.call))

reposted_kept : (h : List Entry) (e : Entry) (n : ℕ) → reposts n e.call ≡ false → is_reposted (h ++ e ∷ []) n ≡ is_reposted h n
reposted_kept h e n off = reposted_more h e n ∙ ap (λ (b : Bool). is_reposted h n || b) off ∙ or_false (is_reposted h n)

-- what is delivered again is among the deliveries
delivers_it : (c : Call) (r : Reply) (n : ℕ) → reposts n c ≡ true → Contains (delivered c r) n
delivers_it (Repost k) r n on = (0, omega arith, eqb-true k n on)
delivers_it _ r n on = absurd (false≢true on)

among_deliveries : (h : List Entry) (n : ℕ) → is_reposted h n ≡ true → Contains (flat_map (λ (e : Entry). delivered e.call e.reply) h) n
among_deliveries [] n on = absurd (cc)
among_deliveries (e ∷ h) n on =
    elim (or_cases (reposts n e.call) (is_reposted h n) on) [
      | inl now ↦ Contains-append_left (delivered e.call e.reply) _ n (delivers_it e.call e.reply n now)
      | inr later ↦ Contains-append_right (delivered e.call e.reply) _ n (among_deliveries h n later)
    ]

reposted_within : (requests : List Message) (h : List Entry) (n : ℕ) → IsCounted requests h → is_reposted h n ≡ true
    → (1 ≤ n) × (n ≤ length (messages requests h))
reposted_within requests h n was on =
    All-contains (λ (k : ℕ). (1 ≤ k) × (k ≤ length (messages requests h))) (deliveries requests h) n was.delivered_within
    (Contains-append_right (range_with_len 1 (length requests)) _ n (among_deliveries h n on))

-- nothing became of a message that is not there
pub fate_outside : (requests : List Message) (h : List Entry) (n : ℕ) → IsCounted requests h → (1 ≤ n → n ≤ length (messages requests h) → ⊥) → fate_of h n ≡ untouched
fate_outside requests h n was outside =
    let unanswered : has_reply h n ≡ false =
    false_from_ne_true (has_reply h n) (λ on. let within = call_within (messages requests h) n (was.answered_call n on) in outside within.0 within.1) in
    same_fate (fate_of h n) untouched
    (false_from_ne_true (is_taken h n) (λ on. let within = was.taken_within n on in outside within.0 within.1))
    (false_from_ne_true (is_reposted h n) (λ on. let within = reposted_within requests h n was on in outside within.0 within.1))
    (ap (λ (ms : List Message). slice_get ms 0) (no_replies h n unanswered))
    (false_from_ne_true (reply_is_taken h n) (λ on. let answered' : has_reply h n ≡ true = was.heard_answered n on in absurd (cc)))

module _ (requests : List Message) (h : List Entry) (e : Entry) (n : ℕ) where
  reply_kept : replied n e.call ≡ [] → slice_get (replies (h ++ e ∷ []) n) 0 ≡ slice_get (replies h n) 0
  reply_kept none = ap (λ (ms : List Message). slice_get ms 0) (replies_more requests h e n ∙ ap (λ (ms : List Message). replies h n ++ ms) none ∙ append-nil (replies h n))

  pub fate_kept : takes n e.call e.reply ≡ false → reposts n e.call ≡ false → replied n e.call ≡ [] → takes_reply n e.call ≡ false
      → fate_of (h ++ e ∷ []) n ≡ fate_of h n
  fate_kept a r b c =
      same_fate (fate_of (h ++ e ∷ []) n) (fate_of h n) (taken_kept requests h e n a) (reposted_kept h e n r) (reply_kept b) (heard_kept requests h e n c)

  pub fate_taken : takes n e.call e.reply ≡ true → reposts n e.call ≡ false → replied n e.call ≡ [] → takes_reply n e.call ≡ false
      → fate_of (h ++ e ∷ []) n ≡ taken (fate_of h n)
  fate_taken a r b c =
      same_fate (fate_of (h ++ e ∷ []) n) (taken (fate_of h n)) (taken_more requests h e n ∙ or_right (is_taken h n) (takes n e.call e.reply) a)
      (reposted_kept h e n r) (reply_kept b) (heard_kept requests h e n c)

  pub fate_reposted : takes n e.call e.reply ≡ false → reposts n e.call ≡ true → replied n e.call ≡ [] → takes_reply n e.call ≡ false
      → fate_of (h ++ e ∷ []) n ≡ reposted (fate_of h n)
  fate_reposted a r b c =
      same_fate (fate_of (h ++ e ∷ []) n) (reposted (fate_of h n)) (taken_kept requests h e n a)
      (reposted_more h e n ∙ or_right (is_reposted h n) (reposts n e.call) r) (reply_kept b) (heard_kept requests h e n c)

  pub fate_answered : (m : Message) → takes n e.call e.reply ≡ false → has_reply h n ≡ false → reposts n e.call ≡ false
      → replied n e.call ≡ m ∷ [] → takes_reply n e.call ≡ false → fate_of (h ++ e ∷ []) n ≡ answered m (fate_of h n)
  fate_answered m a none r b c =
      same_fate (fate_of (h ++ e ∷ []) n) (answered m (fate_of h n)) (taken_kept requests h e n a) (reposted_kept h e n r)
      (ap (λ (ms : List Message). slice_get ms 0) (replies_more requests h e n ∙ ap (λ (ms : List Message). ms ++ replied n e.call) (no_replies h n none) ∙ b))
      (heard_kept requests h e n c)

  pub fate_heard : takes n e.call e.reply ≡ false → reposts n e.call ≡ false → replied n e.call ≡ [] → takes_reply n e.call ≡ true
      → fate_of (h ++ e ∷ []) n ≡ heard (fate_of h n)
  fate_heard a r b c =
      same_fate (fate_of (h ++ e ∷ []) n) (heard (fate_of h n)) (taken_kept requests h e n a) (reposted_kept h e n r) (reply_kept b)
      (heard_more requests h e n ∙ or_right (reply_is_taken h n) (takes_reply n e.call) c)

-- one message more, of which nothing became yet
pub untouched_more : (n : ℕ) → map (fate_of []) (range_with_len 1 (n + 1)) ≡ map (fate_of []) (range_with_len 1 n) ++ untouched ∷ []
untouched_more n = map-range_with_len_more (fate_of []) 1 n (1 + n) refl
