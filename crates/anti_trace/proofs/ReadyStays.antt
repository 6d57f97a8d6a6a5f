-- A call of a process that was ready and did not fit stays ready, so that it is full for ever.
use Rattle.std.proofs.Common.{◌≡◌, ℕ, ◌+◌, ◌<◌, ◌≤◌, cond, Bool, true, false, not, ◌&&◌, ◌||◌, List, [], ◌∷◌, ◌++◌, inl, inr, refl, sym, ap, ◌∙◌, subst, ⊎_elim, append_assoc, append-nil, leb-false, arith}
use Rattle.std.specs.Prelude.{IsTrue, ◌==◌, ◌*◌, bytes_eq, length, nat_le}
use Rattle.std.specs.List.{list_all, list_any}
use Rattle.std.proofs.lemmas.Bool.{and_parts, and_from, cases_Bool, or_cases, or_left, or_right}
use Rattle.anti_ids.specs.declared.id.WriteId.{WriteId}
use Rattle.anti_ids.specs.declared.limits.TheConstants.{MOST_IDS, MOST_UNITS}
use Rattle.anti_kind.specs.declared.call.Call.{Call}
use Rattle.anti_kind.specs.declared.call.Call.TheVariants as calls
use Rattle.anti_kind.specs.declared.entry.Entry.{Entry}
use Rattle.anti_kind.specs.declared.message.Message.{Message}
use Rattle.anti_kind.specs.declared.message.MessageKind.{MessageKind}
use Rattle.anti_kind.specs.declared.message.MessageKind.TheVariants as kinds
use Rattle.anti_kind.specs.declared.row.Row.{Row}
use Rattle.anti_kind.specs.Fulls.{ShowsStay}
use Rattle.anti_kind.specs.Inbox.{post_need, post_ready}
use Rattle.anti_kind.specs.Objects.{Start, store, inbox, Follows, IsLegal, fits, held, need, owed, ready}
use Rattle.anti_kind.specs.Starts.{IsStart}
use Rattle.anti_kind.specs.Store.{Store, can_look, is_replica, is_visible, is_written, over}
use Rattle.anti_kind.specs.Stored.{parts_of, rows}
use Rattle.anti_kind.proofs.Bounds.{within_units}
use Rattle.anti_kind.proofs.Fullness.{finds_all_stays, units_rise}
use Rattle.anti_kind.proofs.Histories.{fits_number, follows_in, legal_front}
use Rattle.anti_kind.proofs.Rows.{is_write, rows_other}
use Rattle.anti_app.specs.declared.app.App.{App}
use Rattle.anti_app.specs.Sound.{is_sound}
use Rattle.anti_object.specs.Starts.{start_of}
use Rattle.anti_object.proofs.Starts.{start_sound, start_stays}
use Rattle.anti_proc.specs.Calls.{IsMadeOn}
use Rattle.anti_trace.specs.Traces.{entries_on}
use Rattle.anti_trace.specs.Ends.{is_full_after}
use Rattle.anti_trace.specs.Legal.{IsLegalTrace}
use Rattle.anti_trace.specs.inner.Living.{WasFull}
use Rattle.anti_trace.proofs.FullStays.{unfit, never_fits}

-- ---- nothing is written any more where not even one unit is left

write_needs : (s : Store) (h : List Entry) (call : Call) → is_write call ≡ true → 1 ≤ need (store s) h call
write_needs s h (calls.Write key value lineage) is = least (nat_le (length (over s h key lineage)) MOST_IDS)
  where
    least : (few : Bool) → 1 ≤ cond few (1 + length s.regions * parts_of s.kind value) (MOST_UNITS + 1)
    least true = omega arith
    least false = omega arith
write_needs s h _ is = absurd (cc)

module _ (s : Store) (sane : IsStart (store s)) where
  no_write : (h : List Entry) (e : Entry) → Follows (store s) h e → MOST_UNITS ≤ held h + owed (store s) h → is_write e.call ≡ false
  no_write h e follows full =
      elim (cases_Bool (is_write e.call)) as (λ _. is_write e.call ≡ false) [
        | inl is ↦ absurd (let least = write_needs s h e.call is in let most = fits_number (store s) h e follows in omega arith)
        | inr off ↦ off
      ]

  pub rows_stay : (h rest : List Entry) → IsLegal (store s) (h ++ rest) → MOST_UNITS ≤ held h + owed (store s) h → rows (h ++ rest) ≡ rows h
  rows_stay h [] legal full = ap rows (append-nil h)
  rows_stay h (e ∷ rest) legal full =
      let more : h ++ e ∷ [] ++ rest ≡ h ++ (e ∷ rest) = append_assoc h (e ∷ []) rest in
      let longer : IsLegal (store s) (h ++ e ∷ [] ++ rest) = subst (IsLegal (store s)) (sym more) legal in
      let rise : held h + owed (store s) h ≤ held (h ++ e ∷ []) + owed (store s) (h ++ e ∷ []) =
      units_rise (store s) h (e ∷ []) sane (legal_front (store s) (h ++ e ∷ []) rest longer) in
      ap rows (sym more) ∙ rows_stay (h ++ e ∷ []) rest longer (omega arith)
      ∙ rows_other h e (no_write h e (follows_in (store s) h e rest legal) full)

  -- so a look that an id keeps ready which is not written stays ready
  look_stays : (h rest : List Entry) (g : ℕ) (ids : List WriteId) (dry : Bool) → ShowsStay (store s) → IsLegal (store s) (h ++ rest)
      → MOST_UNITS ≤ held h + owed (store s) h → can_look s h g ids dry ≡ true → can_look s (h ++ rest) g ids dry ≡ true
  look_stays h rest g ids dry stays legal full was =
      let k : List Entry = h ++ rest in
      let first = and_parts (is_replica s g) _ was in
      let second = and_parts (list_all (λ id. id.store == s.number) ids) _ first.1 in
      let written : list_all (is_written k) ids ≡ list_all (is_written h) ids =
      ap (λ (rs : List Row). list_all (λ id. list_any (λ r. (r.version == id.version) && bytes_eq r.key id.key) rs) ids) (rows_stay h rest legal full) in
      and_from (is_replica s g) _ first.0 (and_from (list_all (λ id. id.store == s.number) ids) _ second.0
      (⊎_elim
      (λ (is : dry ≡ true). or_left dry _ is)
      (λ (either : (list_all (is_visible s h g) ids || not (list_all (is_written h) ids)) ≡ true). or_right dry _
      (⊎_elim
      (λ (all : list_all (is_visible s h g) ids ≡ true). or_left (list_all (is_visible s k g) ids) _ (finds_all_stays (store s) h rest g ids stays legal all))
      (λ (some : not (list_all (is_written h) ids) ≡ true). or_right (list_all (is_visible s k g) ids) _ (ap not written ∙ some))
      (or_cases (list_all (is_visible s h g) ids) _ either)))
      (or_cases dry _ second.1)))

-- ---- each call of a process

-- a post that needs units is ready after each history
post_stays : (requests : List Message) (h k : List Entry) (kind : MessageKind) (to : ℕ) → 0 < post_need kind → post_ready requests h kind to ≡ true → post_ready requests k kind to ≡ true
post_stays requests h k kinds.Call to some was = refl
post_stays requests h k kinds.Send to some was = refl
post_stays requests h k _ to some was = absurd (omega arith)

module _ (app : App) (o : ℕ) (h rest : List Entry) where
  stays_at : (start : Start) (c : Call) → IsStart start → ShowsStay start → IsLegal start (h ++ rest) → IsMadeOn app o c
      → held h + owed start h ≤ MOST_UNITS → MOST_UNITS < held h + owed start h + need start h c → ready start h c ≡ true → ready start (h ++ rest) c ≡ true
  stays_at (store s) (calls.Write key value lineage) sane stays legal made within past was = was
  stays_at (store s) (calls.Read g key) sane stays legal made within past was = was
  stays_at (store s) (calls.Scan g prefix) sane stays legal made within past was = was
  stays_at (store s) (calls.Poll g key) sane stays legal made within past was = was
  stays_at (store s) (calls.Look g ids dry) sane stays legal made within past was = look_stays s sane h rest g ids dry stays legal (omega arith) was
  stays_at (store s) (calls.Ack version) sane stays legal made within past was = absurd (omega arith)
  stays_at (store s) (calls.Nack version) sane stays legal made within past was = absurd (omega arith)
  stays_at (store s) (calls.Post m) sane stays legal made within past was = absurd (cc)
  stays_at (store s) (calls.TakeReply n) sane stays legal made within past was = absurd (cc)
  stays_at (store s) _ sane stays legal made within past was = absurd made
  stays_at (inbox requests) (calls.Post m) sane stays legal made within past was = post_stays requests h (h ++ rest) m.kind m.to (omega arith) was
  stays_at (inbox requests) (calls.TakeReply n) sane stays legal made within past was = absurd (omega arith)
  stays_at (inbox requests) (calls.Write key value lineage) sane stays legal made within past was = absurd (cc)
  stays_at (inbox requests) (calls.Read g key) sane stays legal made within past was = absurd (cc)
  stays_at (inbox requests) (calls.Scan g prefix) sane stays legal made within past was = absurd (cc)
  stays_at (inbox requests) (calls.Poll g key) sane stays legal made within past was = absurd (cc)
  stays_at (inbox requests) (calls.Look g ids dry) sane stays legal made within past was = absurd (cc)
  stays_at (inbox requests) (calls.Ack version) sane stays legal made within past was = absurd (cc)
  stays_at (inbox requests) (calls.Nack version) sane stays legal made within past was = absurd (cc)
  stays_at (inbox requests) _ sane stays legal made within past was = absurd made

-- what was full is full after all that was done
module _ (app : App) (trace : List Entry) (legal : IsLegalTrace app trace) (sound : IsTrue (is_sound app)) (object : ℕ) (call : Call)
    (was : WasFull app trace object call) (made : IsMadeOn app object call) where
  whole : IsLegal was.start (entries_on object trace)
  whole = legal.histories object was.start was.there

  still_ready : ready was.start (entries_on object trace) call ≡ true
  still_ready =
      let longer : IsLegal was.start (was.before ++ was.later) = subst (IsLegal was.start) was.history whole in
      let sane : IsStart was.start = start_sound app object was.start sound was.there in
      let full = was.was_full in
      subst (λ (h : List Entry). ready was.start h call ≡ true) (sym was.history)
      (stays_at app object was.before was.later was.start call sane (start_stays app object was.start was.there) longer made
      (within_units was.start was.before sane (legal_front was.start was.before was.later longer))
      (leb-false (held was.before + owed was.start was.before + need was.start was.before call) MOST_UNITS
      (unfit was.start was.before call was.held_units was.owed_units was.need_units full))
      full.is_ready)

  still_unfit : fits was.start (entries_on object trace) call ≡ false
  still_unfit =
      subst (λ (h : List Entry). fits was.start h call ≡ false) (append-nil (entries_on object trace))
      (never_fits app trace legal sound object call was [] (subst (IsLegal was.start) (sym (append-nil (entries_on object trace))) whole))

  pub is_full_still : is_full_after (entries_on object trace) call (start_of app object) ≡ true
  is_full_still =
      ap (is_full_after (entries_on object trace) call) was.there
      ∙ and_from (ready was.start (entries_on object trace) call) _ still_ready (ap not still_unfit)
