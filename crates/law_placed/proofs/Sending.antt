-- Where a message comes from that is taken in a legal trace: it is a request, or it was posted before to the same inbox.
use Rattle.std.proofs.Common.{◌≡◌, ℕ, ◌-◌, ◌<◌, ◌⊎◌, Bool, true, false, cond, List, [], ◌∷◌, IsTrue, inl, inr, refl, sym, ap, ◌∙◌, subst, arith}
use Rattle.std.specs.Prelude.{Contains, Option, Some, None, nat_lt, slice_get, take, flat_map}
use Rattle.std.specs.List.{Any}
use Rattle.std.proofs.lemmas.List.Elements.{All-contains, Contains-append_cases}
use Rattle.std.proofs.lemmas.Option.{slice_get_within, get_or_from_slice_get}
use Rattle.anti_kind.specs.declared.call.Call.{Call}
use Rattle.anti_kind.specs.declared.call.Call.TheVariants as calls
use Rattle.anti_kind.specs.declared.call.Reply.TheVariants as replies
use Rattle.anti_kind.specs.declared.entry.Entry.{Entry}
use Rattle.anti_kind.specs.declared.message.Message.{Message}
use Rattle.anti_kind.specs.declared.message.MessageKind.{MessageKind}
use Rattle.anti_kind.specs.declared.message.MessageKind.TheVariants as kinds
use Rattle.anti_kind.specs.Inbox.{free, got_of, handed, inbox_due, listed, messages, numbered, posted}
use Rattle.anti_kind.specs.Objects.{Start, store, inbox, Follows}
use Rattle.anti_kind.specs.Store.{store_ready}
use Rattle.anti_kind.proofs.Finding.{joined_from}
use Rattle.anti_app.specs.declared.app.App.{App}
use Rattle.anti_app.specs.Sound.{is_sound}
use Rattle.anti_object.specs.Starts.{start_of}
use Rattle.anti_object.proofs.Starts.{start_sound}
use Rattle.anti_proc.specs.Meaning.{stated_in}
use Rattle.anti_trace.specs.Legal.{IsLegalTrace}
use Rattle.anti_trace.specs.Traces.{entries_on}
use Rattle.law_causal.proofs.Objects.{StatesNone, follows_at, only, start_is_of_app}
use Rattle.law_causal.proofs.Places.{seen, there}

-- ---- what is handed out is one of the messages

among_numbered : (ms : List Message) (n : ℕ) (m : Message) → numbered ms n ≡ Some m → Contains ms m
among_numbered ms n m is = by_test (nat_lt 0 n) is
  where
    by_test : (some : Bool) → cond some (slice_get ms (n - 1)) None ≡ Some m → Contains ms m
    by_test true at = (n - 1, slice_get_within ms (n - 1) m at, get_or_from_slice_get ms (n - 1) m m at)
    by_test false at = absurd (cc)

got_among : (ms : List Message) (k : ℕ) (found : Option Message) (n : ℕ) (m : Message) → numbered ms k ≡ found
    → got_of k found ≡ replies.Got n m → Contains ms m
got_among ms k None n m at is = absurd (cc)
got_among ms k (Some x) n m at is = let same : x ≡ m = cc in among_numbered ms k m (at ∙ ap Some same)

handed_among : (ms : List Message) (found : Option ℕ) (n : ℕ) (m : Message) → handed ms found ≡ replies.Got n m → Contains ms m
handed_among ms None n m is = absurd (cc)
handed_among ms (Some k) n m is = got_among ms k (numbered ms k) n m refl is

-- ---- what is posted

-- the post of a call or a send
pub record IsSent (c : Call) (m : Message) : Type 0 where
  pub call : c ≡ calls.Post m
  pub kind : (m.kind ≡ kinds.Call) ⊎ (m.kind ≡ kinds.Send)

itself : (x m : Message) → (x.kind ≡ kinds.Call) ⊎ (x.kind ≡ kinds.Send) → Contains (x ∷ []) m → IsSent (calls.Post x) m
itself x m kind among = subst (IsSent (calls.Post x)) (only x m among) (record { call = refl; kind = kind })

by_kind : (k : MessageKind) (x m : Message) → x.kind ≡ k → Contains (listed k x) m → IsSent (calls.Post x) m
by_kind kinds.Call x m is among = itself x m (inl is) among
by_kind kinds.Send x m is among = itself x m (inr is) among
by_kind k x m is among = absurd (omega (arith, among.1))

sent_by : (c : Call) (m : Message) → Contains (posted c) m → IsSent c m
sent_by (calls.Post x) m among = by_kind x.kind x m refl among
sent_by c m among = absurd (omega (arith, among.1))

-- ---- in a trace

-- an entry before place j posted the message to the inbox
pub record WasSent (trace : List Entry) (j o : ℕ) (m : Message) : Type 0 where
  pub place : ℕ
  pub entry : Entry
  pub early : place < j
  pub there : slice_get trace place ≡ Some entry
  pub object : entry.object ≡ o
  pub sent : IsSent entry.call m

-- or it is a request, which states no lineage
pub record IsRequest (app : App) (m : Message) : Type 0 where
  pub kind : m.kind ≡ kinds.Request
  pub stated : stated_in app m ≡ []

module _ (app : App) (trace : List Entry) (sound : IsTrue (is_sound app)) (legal : IsLegalTrace app trace)
    (j : ℕ) (b : Entry) (at : slice_get trace j ≡ Some b) (nth number : ℕ) (m : Message)
    (call : b.call ≡ calls.Take nth) (reply : b.reply ≡ replies.Got number m) where
  abbrev here : List Entry
  here = entries_on b.object (take j trace)

  by_source : (requests : List Message) → start_of app b.object ≡ Some (inbox requests)
      → Contains requests m ⊎ Contains (flat_map (λ (e : Entry). posted e.call) here) m → IsRequest app m ⊎ WasSent trace j b.object m
  by_source requests start (inl request) =
      let sane = start_sound app b.object (inbox requests) sound start in
      inl (record {
        kind = All-contains (λ (x : Message). x.kind ≡ kinds.Request) requests m sane.asked request;
        stated = All-contains (StatesNone app) requests m (start_is_of_app app b.object (inbox requests) start) request;
      })
  by_source requests start (inr sent) =
      let found : Any (λ (e : Entry). Contains (posted e.call) m) here = joined_from (λ (e : Entry). posted e.call) here m sent in
      let e : Entry = found.1 in
      let place = seen trace b.object j e (found.0, found.2, found.3) in
      inr (record { place = place.0; entry = e; early = place.1; there = place.2; object = place.3; sent = sent_by e.call m found.4 })

  by_start : (start : Start) → start_of app b.object ≡ Some start → Follows start here b → IsRequest app m ⊎ WasSent trace j b.object m
  by_start (store s) start follows =
      let never : store_ready s here (calls.Take nth) ≡ true = ap (λ (c : Call). store_ready s here c) (sym call) ∙ follows.is_ready in
      absurd (cc)
  by_start (inbox requests) start follows =
      let due : handed (messages requests here) (numbered (free requests here) nth) ≡ replies.Got number m =
      sym (follows.reply ∙ ap (λ (c : Call). inbox_due requests here c) call) ∙ reply in
      by_source requests start
      (Contains-append_cases requests (flat_map (λ (e : Entry). posted e.call) here) m
      (handed_among (messages requests here) (numbered (free requests here) nth) number m due))

  -- A message that is taken is a request, or was posted before.
  pub message_from : IsRequest app m ⊎ WasSent trace j b.object m
  message_from =
      let start = there app trace legal j b at in
      by_start start.0 start.1 (follows_at app trace legal b.object start.0 start.1 j b at refl)
