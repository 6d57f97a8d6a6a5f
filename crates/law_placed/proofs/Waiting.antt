-- In a legal trace each look that is not dry finds all that it asks for, since all of it was written.
use Rattle.std.proofs.Common.{◌≡◌, ℕ, Bool, true, false, not, cond, List, [], ◌∷◌, IsTrue, Some, filter, slice_get, take, refl, ap, ◌∙◌, subst, arith}
use Rattle.std.proofs.lemmas.Bool.{or_left, or_right}
use Rattle.anti_ids.specs.Ids.{has_id, is_id}
use Rattle.anti_ids.specs.declared.id.WriteId.{WriteId}
use Rattle.anti_ids.proofs.IdLemmas.{is_id-itself}
use Rattle.anti_kind.specs.declared.call.Call.{Call}
use Rattle.anti_kind.specs.declared.call.Call.TheVariants as calls
use Rattle.anti_kind.specs.declared.call.Reply.TheVariants as replies
use Rattle.anti_kind.specs.declared.entry.Entry.{Entry}
use Rattle.anti_kind.specs.Objects.{Follows, store}
use Rattle.anti_kind.specs.Store.{Store, is_visible, is_written, store_due}
use Rattle.anti_app.specs.declared.app.App.{App}
use Rattle.anti_app.specs.Sound.{is_sound}
use Rattle.anti_object.specs.Starts.{start_of}
use Rattle.anti_trace.specs.Legal.{IsLegalTrace}
use Rattle.anti_trace.specs.Traces.{entries_on}
use Rattle.law_causal.proofs.Legal.{facts}
use Rattle.law_causal.proofs.Looks.{looked_id}
use Rattle.law_causal.proofs.Objects.{follows_at}
use Rattle.law_causal.proofs.Stores.{look_store, looked_visible}
use Rattle.law_causal.proofs.Written.{carried_is_written}
use Rattle.law_placed.proofs.Histories.{names_none, waits}

-- a filter that no id passes keeps none
none_kept : (p : WriteId → Bool) (ids : List WriteId) → ((w : WriteId) → has_id w ids ≡ true → p w ≡ false) → filter p ids ≡ []
none_kept p [] each = refl
none_kept p (x ∷ xs) each =
    ap (λ (t : Bool). cond t (x ∷ filter p xs) (filter p xs)) (each x (or_left (is_id x x) (has_id x xs) (is_id-itself x)))
    ∙ none_kept p xs (λ w has. each w (or_right (is_id w x) (has_id w xs) has))

module _ (app : App) (trace : List Entry) (sound : IsTrue (is_sound app)) (legal : IsLegalTrace app trace)
    (i : ℕ) (d : Entry) (at : slice_get trace i ≡ Some d) where
  module _ (region : ℕ) (ids : List WriteId) (is : d.call ≡ calls.Look region ids false)
      (s : Store) (start : start_of app d.object ≡ Some (store s)) where
    abbrev here : List Entry
    here = entries_on d.object (take i trace)

    -- what it asks for is carried, so it was written
    asked_is_written : (v : WriteId) → has_id v ids ≡ true → is_written here v ≡ true
    asked_is_written v asked =
        let its = looked_id app trace legal i d at region ids false is v asked in
        subst (λ (o : ℕ). is_written (entries_on o (take i trace)) v ≡ true) its.1
        (carried_is_written app trace (facts app trace sound legal) i d at v its.0)

    none_missing : filter (λ i. not (is_visible s here region i)) ids ≡ []
    none_missing =
        none_kept (λ id. not (is_visible s here region id)) ids (λ w asked.
        ap not (looked_visible app trace legal i d at region ids is s start asked_is_written w asked i (omega arith)))

    found_all : names_none d.reply ≡ true
    found_all =
        let follows : Follows (store s) here d = follows_at app trace legal d.object (store s) start i d at refl in
        let due : d.reply ≡ replies.Missing (filter (λ i. not (is_visible s here region i)) ids) (filter (λ i. not (is_written here i)) ids) =
        follows.reply ∙ ap (λ (c : Call). store_due s here c) is in
        ap names_none due ∙ ap (λ (ms : List WriteId). names_none (replies.Missing ms (filter (λ i. not (is_written here i)) ids))) none_missing

  -- Each entry waited, where it had to.
  pub has_waited : waits d.call d.reply ≡ true
  has_waited = by_call d.call refl
    where
      by_call : (call : Call) → d.call ≡ call → waits call d.reply ≡ true
      by_call (calls.Look region ids false) is =
          let found = look_store app trace legal i d at region ids false is in found_all region ids is found.0 found.1
      by_call (calls.Look region ids true) is = refl
      by_call call is = refl
