-- What does not fit never fits again: held and owed never fall together, and no need falls.
use Rattle.std.proofs.Common.{◌≡◌, ℕ, ◌+◌, ◌<◌, ◌≤◌, Bool, true, not, ◌||◌, ◌==◌, List, [], ◌∷◌, ◌++◌, length, refl, sym, subst, inl, ⊎_elim, append_assoc, append-nil, leb-false, arith}
use Rattle.std.specs.List.{list_all}
use Rattle.std.proofs.lemmas.Bool.{lt-leb, and_parts, and_from, or_cases, or_left, or_right, leb-true, le-leb, false≢true}
use Rattle.std.proofs.lemmas.List.Elements.{All-weaker}
use Rattle.std.proofs.lemmas.List.Sums.{AllPass-from_list_all, list_all-from_AllPass}
use Rattle.anti_ids.specs.declared.id.WriteId.{WriteId}
use Rattle.anti_ids.specs.declared.limits.TheConstants.{MOST_UNITS}
use Rattle.anti_kind.specs.declared.call.Call.{Call}
use Rattle.anti_kind.specs.declared.call.Call.TheVariants.{Write, Read, Scan, Poll, Look, Post}
use Rattle.anti_kind.specs.declared.entry.Entry.{Entry}
use Rattle.anti_kind.specs.declared.message.Message.{Message}
use Rattle.anti_kind.specs.declared.message.MessageKind.{MessageKind}
use Rattle.anti_kind.specs.declared.message.MessageKind.TheVariants as kinds
use Rattle.anti_kind.specs.Stored.{shows_of}
use Rattle.anti_kind.specs.Inbox.{post_ready}
use Rattle.anti_kind.specs.Store.{Store, is_replica, is_visible, is_written, can_look, scanned}
use Rattle.anti_kind.specs.Objects.{Start, store, inbox, ready, held, owed, need, IsLegal}
use Rattle.anti_kind.specs.Starts.{IsStart}
use Rattle.anti_kind.specs.Laws.{NeverFalls, KeepsLaws}
use Rattle.anti_kind.specs.Fulls.{ShowsStay, NeedNeverFalls, FullStaysFull, finds_all, asks, is_asking, AskingStaysReady}
use Rattle.anti_kind.proofs.Histories.{legal_front, follows_in}
use Rattle.anti_kind.proofs.Bounds.{units}
use Rattle.anti_kind.proofs.Overs.{over_grows, write_need}
use Rattle.anti_kind.proofs.Showing.{never_falls, shows_written}
use Rattle.anti_kind.proofs.Scans.{scan_grows}

-- A store that shows the greatest version that is whole shows what stays, and so does each that keeps its laws.
pub shown_stays : (s : Store) → s.shows ≡ shows_of s.kind → ShowsStay (store s)
shown_stays s is = (never_falls s is, shows_written s is)

pub lawful_stays : (s : Store) → KeepsLaws s → ShowsStay (store s)
lawful_stays s laws = (laws.never_falls, laws.shows_written)

pub units_rise : (start : Start) (h rest : List Entry) → IsStart start → IsLegal start (h ++ rest) → held h + owed start h ≤ held (h ++ rest) + owed start (h ++ rest)
units_rise start h [] sane l = subst (λ (k : List Entry). held h + owed start h ≤ held k + owed start k) (sym (append-nil h)) (omega arith)
units_rise start h (e ∷ rest) sane l =
    let more : h ++ e ∷ [] ++ rest ≡ h ++ (e ∷ rest) = append_assoc h (e ∷ []) rest in
    let later : held (h ++ e ∷ []) + owed start (h ++ e ∷ []) ≤ held (h ++ e ∷ [] ++ rest) + owed start (h ++ e ∷ [] ++ rest) =
    units_rise start (h ++ e ∷ []) rest sane (subst (λ (k : List Entry). IsLegal start k) (sym more) l) in
    let step : held (h ++ e ∷ []) + owed start (h ++ e ∷ []) ≡ held h + owed start h + need start h e.call =
    units start h e sane (legal_front start h (e ∷ rest) l) (follows_in start h e rest l) in
    subst (λ (k : List Entry). held h + owed start h ≤ held k + owed start k) more (omega arith)

-- All calls but a write and a scan need the same after each history. What a write keeps only grows, and a scan's rows stay.
pub need_never_falls : NeedNeverFalls
need_never_falls (store s) h rest (Write key value lineage) stays l can asc =
    write_need s h (h ++ rest) key value lineage (over_grows s h rest key lineage l can asc)
need_never_falls (store s) h rest (Scan g prefix) stays l can asc =
    let more : length (scanned s h g prefix) ≤ length (scanned s (h ++ rest) g prefix) = scan_grows s stays.0 stays.1 h rest l g prefix in
    inl (omega arith)
need_never_falls (store s) h rest _ stays l can asc = inl (omega arith)
need_never_falls (inbox requests) h rest c stays l can asc = inl (omega arith)

-- So what did not fit will not fit later.
pub full_stays : FullStaysFull
full_stays start h rest c sane stays l can asc full =
    let past : MOST_UNITS < held h + owed start h + need start h c = leb-false (held h + owed start h + need start h c) MOST_UNITS full in
    let rise : held h + owed start h ≤ held (h ++ rest) + owed start (h ++ rest) = units_rise start h rest sane l in
    lt-leb (held (h ++ rest) + owed start (h ++ rest) + need start (h ++ rest) c) MOST_UNITS
    (⊎_elim (λ (more : need start h c ≤ need start (h ++ rest) c). omega arith)
    (λ (most : MOST_UNITS < need start (h ++ rest) c). omega arith)
    (need_never_falls start h rest c stays l can asc))

-- The calls by which a process needs units stay ready.

pub visible_stays : (s : Store) → NeverFalls s → (h rest : List Entry) → IsLegal (store s) (h ++ rest) → (g : ℕ) (id : WriteId) → is_visible s h g id ≡ true → is_visible s (h ++ rest) g id ≡ true
visible_stays s rises h rest l g id was =
    let now : id.version ≤ s.shows h g id.key = leb-true id.version (s.shows h g id.key) was in
    le-leb id.version (s.shows (h ++ rest) g id.key) (omega (arith, rises h rest l g id.key))

pub finds_all_stays : (start : Start) (h rest : List Entry) (g : ℕ) (ids : List WriteId) → ShowsStay start → IsLegal start (h ++ rest) → finds_all start h g ids ≡ true → finds_all start (h ++ rest) g ids ≡ true
finds_all_stays (inbox requests) h rest g ids stays l was = was
finds_all_stays (store s) h rest g ids stays l was =
    list_all-from_AllPass (is_visible s (h ++ rest) g) ids
    (All-weaker (λ (id : WriteId). is_visible s h g id ≡ true) (λ (id : WriteId). is_visible s (h ++ rest) g id ≡ true) (visible_stays s stays.0 h rest l g) ids
    (AllPass-from_list_all (is_visible s h g) ids was))

or_more : (a b c : Bool) → (b ≡ true → c ≡ true) → (a || b) ≡ true → (a || c) ≡ true
or_more a b c more on = ⊎_elim (λ (first : a ≡ true). or_left a c first) (λ (second : b ≡ true). or_right a c (more second)) (or_cases a b on)

asking_stays : (start : Start) (h rest : List Entry) (c : Call) → ShowsStay start → IsLegal start (h ++ rest) → is_asking start h c ≡ true → is_asking start (h ++ rest) c ≡ true
asking_stays start h rest (Look g ids dry) stays l on = or_more dry (finds_all start h g ids) (finds_all start (h ++ rest) g ids) (finds_all_stays start h rest g ids stays l) on
asking_stays start h rest _ stays l on = on

-- a look is ready where it is dry or misses none
look_ready : (s : Store) (h k : List Entry) (g : ℕ) (ids : List WriteId) (dry : Bool) → (dry || finds_all (store s) k g ids) ≡ true → can_look s h g ids dry ≡ true → can_look s k g ids dry ≡ true
look_ready s h k g ids dry on was =
    let first = and_parts (is_replica s g) _ was in
    let second = and_parts (list_all (λ id. id.store == s.number) ids) _ first.1 in
    let found : list_all (is_visible s k g) ids ≡ true → (list_all (is_visible s k g) ids || not (list_all (is_written k) ids)) ≡ true = or_left (list_all (is_visible s k g) ids) (not (list_all (is_written k) ids)) in
    and_from (is_replica s g) _ first.0 (and_from (list_all (λ id. id.store == s.number) ids) _ second.0 (or_more dry (list_all (is_visible s k g) ids) _ found on))

post_stays : (requests : List Message) (h k : List Entry) (kind : MessageKind) (to : ℕ) → asks kind ≡ true → post_ready requests h kind to ≡ true → post_ready requests k kind to ≡ true
post_stays requests h k kinds.Call to on was = refl
post_stays requests h k kinds.Send to on was = refl
post_stays requests h k _ to on was = absurd (false≢true on)

stays_ready : (start : Start) (h k : List Entry) (c : Call) → is_asking start k c ≡ true → ready start h c ≡ true → ready start k c ≡ true
stays_ready (store s) h k (Write key value lineage) on was = was
stays_ready (store s) h k (Read g key) on was = was
stays_ready (store s) h k (Scan g prefix) on was = was
stays_ready (store s) h k (Poll g key) on was = was
stays_ready (store s) h k (Look g ids dry) on was = look_ready s h k g ids dry on was
stays_ready (store s) h k (Post m) on was = absurd (false≢true was)
stays_ready (store s) h k _ on was = absurd (false≢true on)
stays_ready (inbox requests) h k (Post m) on was = post_stays requests h k m.kind m.to on was
stays_ready (inbox requests) h k (Write key value lineage) on was = absurd (false≢true was)
stays_ready (inbox requests) h k (Read g key) on was = absurd (false≢true was)
stays_ready (inbox requests) h k (Scan g prefix) on was = absurd (false≢true was)
stays_ready (inbox requests) h k (Poll g key) on was = absurd (false≢true was)
stays_ready (inbox requests) h k (Look g ids dry) on was = absurd (false≢true was)
stays_ready (inbox requests) h k _ on was = absurd (false≢true on)

pub asking_stays_ready : AskingStaysReady
asking_stays_ready start h rest c stays l on was =
    let still : is_asking start (h ++ rest) c ≡ true = asking_stays start h rest c stays l on in
    (still, stays_ready start h (h ++ rest) c still was)
