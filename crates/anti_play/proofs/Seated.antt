-- What `finish` makes has no seat, so what has one is what there was before.
use Rattle.std.proofs.Common.{◌≡◌, ℕ, zero, suc, ◌*◌, ◌<◌, Bool, false, List, [], ◌∷◌, refl, ap, ◌∙◌}
use Rattle.std.specs.Prelude.{All, Option, None, Some, filter, nat_lt, option_and_then}
use Rattle.std.specs.Option.{option_map_or}
use Rattle.std.proofs.lemmas.Bool.{lt-ltb}
use Rattle.std.proofs.lemmas.List.Elements.{All-head, All-tail}
use Rattle.anti_ids.specs.declared.limits.TheConstants.{MOST_UNITS}
use Rattle.anti_kind.specs.declared.asking.Asking.{Asking}
use Rattle.anti_kind.specs.declared.entry.Entry.{Entry}
use Rattle.anti_app.specs.declared.app.App.{App}
use Rattle.anti_app.specs.declared.app.Choice.{Choice}
use Rattle.anti_app.specs.Objects.{object_count}
use Rattle.anti_trace.specs.Traces.{put}
use Rattle.anti_trace.proofs.Puts.{filter-put_other, filter-yes}
use Rattle.anti_play.specs.Schedule.{after_turns, asked, chosen, finished, first_made, made_at, offers}
use Rattle.anti_play.proofs.FirstOf.{first_found}
use Rattle.anti_play.proofs.MadeAt.{made_of}

abbrev has_seat : Entry → Bool
has_seat e = nat_lt 0 e.seat

unseated : (app : App) (trace : List Entry) (q : Option Asking) (e : Entry) → option_and_then (made_at app trace) q ≡ Some e → has_seat e ≡ false
unseated app trace None e made = absurd (cc)
unseated app trace (Some q) e made =
    let none : e.seat ≡ 0 = ap (λ (d : Entry). d.seat) (made_of app trace q e made).is in
    ap (λ (n : ℕ). nat_lt 0 n) none

made_unseated : (app : App) (trace : List Entry) (e : Entry) → first_made app trace ≡ Some e → has_seat e ≡ false
made_unseated app trace e is =
    let found : (c : Choice) × (chosen app trace c ≡ Some e) = first_found (chosen app trace) (offers app trace) e is in
    unseated app trace (asked app trace found.0) e found.1

-- turn after turn
turns_unseated : (n : ℕ) (app : App) (trace : List Entry) → filter has_seat (after_turns n app trace) ≡ filter has_seat trace
unfolding after_turns
turns_unseated zero app trace = refl
turns_unseated (suc n) app trace = by_made (λ t. after_turns n app t) (λ t. turns_unseated n app t) (first_made app trace) refl
  where
    by_made : (after : List Entry → List Entry) → ((t : List Entry) → filter has_seat (after t) ≡ filter has_seat t) → (o : Option Entry) → first_made app trace ≡ o
        → filter has_seat (option_map_or (λ e. after (put e trace)) o trace) ≡ filter has_seat trace
    by_made after same None is = refl
    by_made after same (Some e) is = same (put e trace) ∙ filter-put_other has_seat e trace (made_unseated app trace e is)

all_seated : (trace : List Entry) → All (λ e. 0 < e.seat) trace → filter has_seat trace ≡ trace
all_seated [] all = refl
all_seated (e ∷ trace) all =
    filter-yes has_seat e trace (lt-ltb 0 e.seat (All-head (λ d. 0 < d.seat) e trace all))
    ∙ ap (λ (t : List Entry). e ∷ t) (all_seated trace (All-tail (λ d. 0 < d.seat) e trace all))

pub finished_seated : (app : App) (trace : List Entry) → All (λ e. 0 < e.seat) trace → filter has_seat (finished app trace) ≡ trace
unfolding finished
finished_seated app trace all = turns_unseated (object_count app * MOST_UNITS) app trace ∙ all_seated trace all
