-- What a pull makes starts the handler of its subscription.
use Rattle.std.proofs.Common.{◌≡◌, ℕ, true, List, [], refl, sym, ◌∙◌, subst, eq-eqb, unwrap_or}
use Rattle.std.specs.Prelude.{Some, option_and_then, slice_get}
use Rattle.anti_kind.specs.declared.call.Call.TheVariants as calls
use Rattle.anti_kind.specs.declared.entry.Entry.{Entry}
use Rattle.anti_kind.specs.Objects.{Start, store, inbox, ready}
use Rattle.anti_kind.specs.Store.{next, absent}
use Rattle.anti_kind.specs.Stored.{row_of}
use Rattle.anti_app.specs.declared.app.App.{App}
use Rattle.anti_app.specs.declared.app.SubDef.{SubDef}
use Rattle.anti_app.specs.Subs.{position_on}
use Rattle.anti_app.proofs.SubsOn.{sub_back}
use Rattle.anti_object.specs.Starts.{start_of}
use Rattle.anti_proc.proofs.Knowing.{pulled_known, repulled_known}
use Rattle.anti_trace.specs.Traces.{entries_on}
use Rattle.anti_play.specs.Pulls.{StartsHandlerOf}
use Rattle.anti_play.specs.Schedule.{bearing, made_at, next_entry, pulling_at}
use Rattle.anti_play.proofs.Choose.{pulled_as}
use Rattle.anti_play.proofs.Complete.{store_in_front}
use Rattle.anti_play.proofs.MadeAt.{Made, made_of}

module _ (app : App) (trace : List Entry) (number : ℕ) (sub : SubDef) (there : slice_get app.subs.items number ≡ Some sub) where
  -- its position among those of its store, and the history of this
  abbrev position : ℕ
  position = position_on app sub.store number

  abbrev h : List Entry
  h = entries_on sub.store trace

  pull_by : (start : Start) → start_of app sub.store ≡ Some start → ready start h (calls.Pull position) ≡ true
      → StartsHandlerOf app sub (next_entry start h (bearing trace sub.store (calls.Pull position)))
  pull_by (store s) at on = record {
    row = unwrap_or (next s h position) (absent []);
    reply = refl;
    role = pulled_known app (next_entry (store s) h (bearing trace sub.store (calls.Pull position))) position (unwrap_or (next s h position) (absent [])) sub
        (store_in_front app sub.store s at) refl refl (sub_back app sub.store number sub there (eq-eqb sub.store sub.store refl));
  }
  pull_by (inbox requests) at on = absurd (cc)

  repull_by : (version : ℕ) (start : Start) → start_of app sub.store ≡ Some start → ready start h (calls.Repull position version) ≡ true
      → StartsHandlerOf app sub (next_entry start h (bearing trace sub.store (calls.Repull position version)))
  repull_by version (store s) at on = record {
    row = unwrap_or (row_of h version) (absent []);
    reply = refl;
    role = repulled_known app (next_entry (store s) h (bearing trace sub.store (calls.Repull position version))) position version (unwrap_or (row_of h version) (absent [])) sub
        (store_in_front app sub.store s at) refl refl (sub_back app sub.store number sub there (eq-eqb sub.store sub.store refl));
  }
  repull_by version (inbox requests) at on = absurd (cc)

  pub pull_starts : (e : Entry) → option_and_then (made_at app trace) (pulling_at app trace calls.Pull number) ≡ Some e → StartsHandlerOf app sub e
  pull_starts e is =
      let m : Made app trace (bearing trace sub.store (calls.Pull position)) e =
      made_of app trace (bearing trace sub.store (calls.Pull position)) e (pulled_as app trace calls.Pull number position sub there refl ∙ is) in
      subst (StartsHandlerOf app sub) (sym m.is) (pull_by m.start m.there m.is_ready)

  pub repull_starts : (version : ℕ) (e : Entry) → option_and_then (made_at app trace) (pulling_at app trace (λ n. calls.Repull n version) number) ≡ Some e
      → StartsHandlerOf app sub e
  repull_starts version e is =
      let m : Made app trace (bearing trace sub.store (calls.Repull position version)) e =
      made_of app trace (bearing trace sub.store (calls.Repull position version)) e (pulled_as app trace (λ (n : ℕ). calls.Repull n version) number position sub there refl ∙ is) in
      subst (StartsHandlerOf app sub) (sym m.is) (repull_by version m.start m.there m.is_ready)
