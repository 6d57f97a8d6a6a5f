-- The members of a span are reads, and each is causally before all later ones. What a call adds stands between its post and the taking of
-- the reply: the process that answers takes the call before all that it does, and posts the reply behind all that it did.
use Rattle.std.proofs.Common.{◌≡◌, ℕ, zero, suc, ◌<◌, ◌⊎◌, true, List, AllPairs, Contains, sym, ap, ◌∙◌, subst, inl, inr, arith}
use Rattle.std.specs.Prelude.{length, slice_get, flat_map}
use Rattle.std.proofs.lemmas.Bool.{cases_lt, cases_order}
use Rattle.anti_kind.specs.declared.actor.Birth.{Birth}
use Rattle.anti_kind.specs.declared.call.Call.TheVariants as calls
use Rattle.anti_kind.specs.declared.call.Reply.TheVariants as replies
use Rattle.anti_kind.specs.declared.entry.Entry.{Entry}
use Rattle.anti_kind.specs.declared.message.Message.{Message}
use Rattle.anti_kind.proofs.Finding.{joined_from}
use Rattle.anti_app.specs.declared.app.App.{App}
use Rattle.anti_trace.specs.Legal.{IsLegalTrace, bears}
use Rattle.law_causal.specs.Causal.{Before, is_process, message, program, through}
use Rattle.law_causal.specs.Reads.{is_at}
use Rattle.law_causal.specs.Words.{reads}
use Rattle.law_causal.proofs.Lists.{same_at}
use Rattle.law_causal.proofs.Objects.{only}
use Rattle.law_serial.proofs.Cuts.{in_none, kept_ascend}
use Rattle.law_serial.proofs.Pasts.{is_at_there}
use Rattle.anti_session.specs.Members.{adds_at, is_of_span, members_in, span_places}
use Rattle.anti_session.proofs.Added.{Adds, IsAnswerer, IsInSpan, PostsCall, call_delivered, in_span, itself, nothing, reply_delivered, served, what_it_adds}
use Rattle.anti_session.proofs.Joined.{pairs_joined}
use Rattle.anti_session.proofs.Turns.{IsHeard, born_first, hears_by, never_born, never_later}

-- What is shown of members, where calls are followed so many deep: they are reads, in their order, and those of a process that answers a
-- call stand between its taking of the call and its reply.
pub record AreOrdered (trace : List Entry) (depth : ℕ) : Type 0 where
  pub read : (b : Birth) (span x : ℕ) → Contains (members_in depth trace b span) x → is_at (λ e. reads e.call) trace x ≡ true
  pub ordered : (b : Birth) (span : ℕ) → AllPairs (Before trace) (members_in depth trace b span)
  pub inside : (inbox number : ℕ) (b : Birth) (a : IsAnswerer trace inbox number b) (x : ℕ) → Contains (members_in depth trace b 1) x
      → Before trace a.take.place x × Before trace x a.answer.place

-- an entry that adds something is none that takes a message, or a reply, or posts a reply
record IsActive (e : Entry) : Type 0 where
  takes_none : (nth : ℕ) → e.call ≡ calls.Take nth → ⊥
  hears_none : (number : ℕ) → e.call ≡ calls.TakeReply number → ⊥
  answers_none : (m : Message) → e.call ≡ calls.Post m → e.reply ≡ replies.Done → ⊥

read_active : (e : Entry) → reads e.call ≡ true → IsActive e
read_active e is = record {
  takes_none = λ nth call. let off = ap reads call in absurd (cc);
  hears_none = λ number call. let off = ap reads call in absurd (cc);
  answers_none = λ m call reply. let off = ap reads call in absurd (cc);
}

post_active : (e : Entry) (number : ℕ) → PostsCall e.call e.reply number → IsActive e
post_active e number post =
    let posts : e.call ≡ calls.Post post.message = post.call in
    let posted : e.reply ≡ replies.Posted number = post.reply in
    record {
      takes_none = λ nth call. absurd (cc);
      hears_none = λ n call. absurd (cc);
      answers_none = λ m call reply. absurd (cc);
    }

module _ (app : App) (trace : List Entry) (legal : IsLegalTrace app trace) where
  -- ---- in a span

  module _ (b : Birth) (span x y : ℕ) (one : IsInSpan trace b span x) (other : IsInSpan trace b span y) where
    in_a_span : x < y → Before trace x y
    in_a_span low =
        program one.entry other.entry one.there other.there (record {
          before = low;
          process = ap is_process one.by;
          actor = one.by ∙ sym other.by;
          span = one.within ∙ sym other.within;
        })

  -- ---- one deeper

  module _ (depth : ℕ) (good : AreOrdered trace depth) (b : Birth) (span : ℕ) where
    abbrev of : Birth → List ℕ
    of c = members_in depth trace c 1

    abbrev added : ℕ → List ℕ
    added = adds_at of trace b span

    -- what an entry adds is a read
    added_read : (x : ℕ) → IsInSpan trace b span x → (m : ℕ) → Contains (added x) m → is_at (λ e. reads e.call) trace m ≡ true
    added_read x i m among = by_case (what_it_adds trace b span x i.entry i.there)
      where
        by_case : Adds trace b span x i.entry → is_at (λ e. reads e.call) trace m ≡ true
        by_case (nothing gives) = in_none m (subst (λ (ms : List ℕ). Contains ms m) (gives of) among)
        by_case (itself is gives) =
            let same : x ≡ m = only x m (subst (λ (ms : List ℕ). Contains ms m) (gives of) among) in
            subst (λ (k : ℕ). is_at (λ e. reads e.call) trace k ≡ true) same (is_at_there (λ e. reads e.call) trace x i.entry i.there ∙ is)
        by_case (served number c post a gives) = good.read c 1 m (subst (λ (ms : List ℕ). Contains ms m) (gives of) among)

    -- in its order
    added_ordered : (x : ℕ) → IsInSpan trace b span x → AllPairs (Before trace) (added x)
    added_ordered x i = by_case (what_it_adds trace b span x i.entry i.there)
      where
        by_case : Adds trace b span x i.entry → AllPairs (Before trace) (added x)
        by_case (nothing gives) =
            subst (AllPairs (Before trace)) (sym (gives of)) (λ k l d low short. absurd (omega (arith, short)))
        by_case (itself is gives) =
            subst (AllPairs (Before trace)) (sym (gives of)) (λ k l d low short. absurd (omega (arith, low, short)))
        by_case (served number c post a gives) = subst (AllPairs (Before trace)) (sym (gives of)) (good.ordered c 1)

    added_active : (x : ℕ) (i : IsInSpan trace b span x) (m : ℕ) → Contains (added x) m → IsActive i.entry
    added_active x i m among = by_case (what_it_adds trace b span x i.entry i.there)
      where
        by_case : Adds trace b span x i.entry → IsActive i.entry
        by_case (nothing gives) = in_none m (subst (λ (ms : List ℕ). Contains ms m) (gives of) among)
        by_case (itself is gives) = read_active i.entry is
        by_case (served number c post a gives) = post_active i.entry number post

    -- it is the entry, or behind it
    from_entry : (x : ℕ) (i : IsInSpan trace b span x) (m : ℕ) → Contains (added x) m → (x ≡ m) ⊎ Before trace x m
    from_entry x i m among = by_case (what_it_adds trace b span x i.entry i.there)
      where
        by_case : Adds trace b span x i.entry → (x ≡ m) ⊎ Before trace x m
        by_case (nothing gives) = in_none m (subst (λ (ms : List ℕ). Contains ms m) (gives of) among)
        by_case (itself is gives) = inl (only x m (subst (λ (ms : List ℕ). Contains ms m) (gives of) among))
        by_case (served number c post a gives) =
            let taken : Before trace x a.take.place =
            message i.entry a.take.entry i.there a.take.there (call_delivered trace i.entry number c post a.take) in
            inr (through taken (good.inside i.entry.object number c a m (subst (λ (ms : List ℕ). Contains ms m) (gives of) among)).0)

    -- and before each later entry of the span that takes no reply
    to_entry : (x y : ℕ) (i : IsInSpan trace b span x) (j : IsInSpan trace b span y) → x < y
        → ((number : ℕ) → j.entry.call ≡ calls.TakeReply number → ⊥) → (m : ℕ) → Contains (added x) m → Before trace m y
    to_entry x y i j low hears_none m among = by_case (what_it_adds trace b span x i.entry i.there)
      where
        -- the reply is taken before
        by_heard : (number : ℕ) (c : Birth) (a : IsAnswerer trace i.entry.object number c) → IsHeard trace b i.entry number y
            → Before trace a.answer.place y
        by_heard number c a h =
            elim (cases_lt h.place y) [
              | inl early ↦
                  through
                  (message a.answer.its.entry h.entry a.answer.its.there h.there
                  (reply_delivered trace i.entry.object number c a.answer h.entry h.hears.object h.hears.call))
                  (in_a_span b span h.place y
                  (record { entry = h.entry; there = h.there; by = h.by; within = h.hears.span ∙ i.within }) j early)
              | inr late ↦
                  let at : h.place ≡ y = omega (arith, h.early, late) in
                  let same : h.entry ≡ j.entry = same_at trace y h.entry j.entry (ap (slice_get trace) (sym at) ∙ h.there) j.there in
                  absurd (hears_none number (ap (λ (e : Entry). e.call) (sym same) ∙ h.hears.call))
            ]

        by_case : Adds trace b span x i.entry → Before trace m y
        by_case (nothing gives) = in_none m (subst (λ (ms : List ℕ). Contains ms m) (gives of) among)
        by_case (itself is gives) =
            let same : x ≡ m = only x m (subst (λ (ms : List ℕ). Contains ms m) (gives of) among) in
            subst (λ (k : ℕ). Before trace k y) same (in_a_span b span x y i j low)
        by_case (served number c post a gives) =
            let its = good.inside i.entry.object number c a m (subst (λ (ms : List ℕ). Contains ms m) (gives of) among) in
            let heard : IsHeard trace b i.entry number y =
            hears_by app trace legal b x y i.entry j.entry i.there j.there i.by j.by low post.message number post.call post.kind post.reply in
            through its.1 (by_heard number c a heard)

    across : (x y : ℕ) (i : IsInSpan trace b span x) (j : IsInSpan trace b span y) → x < y → (m n : ℕ) → Contains (added x) m
        → Contains (added y) n → Before trace m n
    across x y i j low m n in_x in_y =
        let early : Before trace m y = to_entry x y i j low (added_active y j n in_y).hears_none m in_x in
        elim (from_entry y j n in_y) [
          | inl same ↦ subst (Before trace m) same early
          | inr later ↦ through early later
        ]

    deeper_ordered : AllPairs (Before trace) (flat_map added (span_places trace b span))
    deeper_ordered =
        pairs_joined (λ (x y : ℕ). x < y) (Before trace) added (span_places trace b span)
        (kept_ascend (is_at (is_of_span b span) trace) (length trace)) (λ x among. added_ordered x (in_span trace b span x among).0)
        (λ x y in_x in_y low m n. across x y (in_span trace b span x in_x).0 (in_span trace b span y in_y).0 low m n)

    deeper_read : (m : ℕ) → Contains (flat_map added (span_places trace b span)) m → is_at (λ e. reads e.call) trace m ≡ true
    deeper_read m among =
        let from = joined_from added (span_places trace b span) m among in
        added_read from.1 (in_span trace b span from.1 (from.0, from.2, from.3)).0 m from.4

  -- ---- in the first span of a process that answers

  module _ (depth : ℕ) (good : AreOrdered trace depth) (inbox number : ℕ) (b : Birth) (a : IsAnswerer trace inbox number b) (x m : ℕ)
      (i : IsInSpan trace b 1 x) (among : Contains (adds_at (λ c. members_in depth trace c 1) trace b 1 x) m) where
    active : IsActive i.entry
    active = added_active depth good b 1 x i m among

    born : bears a.take.entry.call ≡ true
    born = ap bears a.take.call

    take : IsInSpan trace b 1 a.take.place
    take = record {
      entry = a.take.entry;
      there = a.take.there;
      by = a.take.by;
      within = born_first app trace legal b a.take.place a.take.entry a.take.there a.take.by born;
    }

    taken_before : Before trace a.take.place x
    taken_before =
        elim (cases_order a.take.place x) [
          | inl same ↦
              let here : a.take.entry ≡ i.entry =
              same_at trace x a.take.entry i.entry (ap (slice_get trace) (sym same) ∙ a.take.there) i.there in
              absurd (active.takes_none a.take.nth (ap (λ (e : Entry). e.call) (sym here) ∙ a.take.call))
          | inr unlike ↦
              elim unlike [
                | inl early ↦
                    program a.take.entry i.entry a.take.there i.there (record {
                      before = early;
                      process = ap is_process a.take.by;
                      actor = a.take.by ∙ sym i.by;
                      span = born_first app trace legal b a.take.place a.take.entry a.take.there a.take.by born ∙ sym i.within;
                    })
                | inr late ↦
                    absurd (never_born app trace legal b x a.take.place i.entry a.take.entry i.there a.take.there i.by a.take.by late born)
              ]
        ]

    replied_behind : x < a.answer.place
    replied_behind =
        elim (cases_order x a.answer.place) [
          | inl same ↦
              let here : i.entry ≡ a.answer.its.entry =
              same_at trace a.answer.place i.entry a.answer.its.entry (ap (slice_get trace) (sym same) ∙ i.there) a.answer.its.there in
              absurd (active.answers_none a.answer.message (ap (λ (e : Entry). e.call) here ∙ a.answer.call)
              (ap (λ (e : Entry). e.reply) here ∙ a.answer.reply))
          | inr unlike ↦
              elim unlike [
                | inl early ↦ early
                | inr late ↦
                    absurd (never_later app trace legal b a.answer.place x a.answer.its.entry i.entry a.answer.its.there i.there
                    a.answer.its.by i.by late a.answer.message a.answer.call a.answer.kind)
              ]
        ]

    between : Before trace a.take.place m × Before trace m a.answer.place
    between = (
      elim (from_entry depth good b 1 x i m among) [
        | inl same ↦ subst (Before trace a.take.place) same taken_before
        | inr later ↦ through taken_before later
      ],
      to_entry depth good b 1 x a.answer.place i a.answer.its replied_behind
          (λ n call. let posts : a.answer.its.entry.call ≡ calls.Post a.answer.message = a.answer.call in absurd (cc)) m among,
    )

  -- ---- at each depth

  pub are_ordered : (depth : ℕ) → AreOrdered trace depth
  are_ordered zero = record {
    read = λ b span x among. in_none x among;
    ordered = λ b span i j d low short. absurd (omega (arith, short));
    inside = λ inbox number b a x among. in_none x among;
  }
  are_ordered (suc depth) =
      let good : AreOrdered trace depth = are_ordered depth in
      record {
        read = λ b span x among. deeper_read depth good b span x among;
        ordered = λ b span. deeper_ordered depth good b span;
        inside = λ inbox number b a x among.
            let from = joined_from (adds_at (λ c. members_in depth trace c 1) trace b 1) (span_places trace b 1) x among in
            between depth good inbox number b a from.1 x (in_span trace b 1 from.1 (from.0, from.2, from.3)).0 from.4;
      }
