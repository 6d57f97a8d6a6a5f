-- Two worked traces of one service. In the first a process reads what it wrote, with no barrier between: the read is not settled, and no
-- lineage loses a write. In the second a process writes behind a read, without a transfer of what it read: this write loses the other.
use Rattle.std.proofs.Common.{◌≡◌, ℕ, zero, suc, ◌<◌, Bool, true, false, List, [], ◌∷◌, Some, slice_get, take, flat_map, refl, sym, ap, ◌∙◌, subst, inl, inr, arith}
use Rattle.std.specs.Prelude.{Contains, None, codes}
use Rattle.std.specs.List.{list_all}
use Rattle.std.proofs.lemmas.Bool.{and_parts, or_cases}
use Rattle.std.proofs.lemmas.List.Elements.{Contains-append_right}
use Rattle.anti_ids.specs.Ids.{has_id, is_id}
use Rattle.anti_ids.specs.declared.id.WriteId.{WriteId}
use Rattle.anti_ids.proofs.IdLemmas.{same_id}
use Rattle.anti_kind.specs.declared.actor.Actor.TheVariants.{Carrier}
use Rattle.anti_kind.specs.declared.call.Call.TheVariants as calls
use Rattle.anti_kind.specs.declared.call.Reply.TheVariants as replies
use Rattle.anti_kind.specs.declared.entry.Entry.{Entry}
use Rattle.anti_kind.specs.Store.{absent}
use Rattle.anti_lang.specs.Bodies.{block_from}
use Rattle.anti_lang.specs.Program.{Block, Nack}
use Rattle.anti_lang.proofs.PlainLemmas.{block_again}
use Rattle.anti_app.specs.declared.app.App.{App}
use Rattle.anti_trace.specs.Traces.{entries_by, is_by}
use Rattle.anti_trace.proofs.Puts.{same_actor_itself}
use Rattle.law_causal.specs.Words.{brings, hands_all}
use Rattle.law_causal.specs.Causal.{Earlier}
use Rattle.law_causal.specs.Carried.{Brought, IsLossless, carried_at}
use Rattle.law_causal.specs.Settled.{IsSettled, found_in}
use Rattle.law_causal.proofs.Ids.{id_for, joined_has, not_none}
use Rattle.law_causal.proofs.Lists.{kept_between}
use Rattle.law_causal.proofs.WorkedForms.{app_with, born_at, carried_with, handler_with, made, read_as, request_for, row_of, service_in, shows, store_in, taken_at, write_to}

-- ---- each entry of a trace that passes a test

abbrev pub AndIf : Bool → Type 0 → Type 0 → Type 0
AndIf true first rest = first × rest
AndIf false first rest = rest

abbrev pub EachThat : (Entry → Bool) → (ℕ → Entry → Type 0) → List Entry → Type 0
EachThat test P [] = Unit {0}
EachThat test P (e ∷ es) = AndIf (test e) (P 0 e) (EachThat test (λ j. P (suc j)) es)

at_test : (test : Entry → Bool) (P : ℕ → Entry → Type 0) (x : Entry) (xs : List Entry) (rest : Type 0) (e : Entry) → test e ≡ true
    → (rest → (j : ℕ) → slice_get xs j ≡ Some e → P (suc j) e)
    → (passes : Bool) → test x ≡ passes → AndIf passes (P 0 x) rest → (j : ℕ) → slice_get (x ∷ xs) j ≡ Some e → P j e
at_test test P x xs rest e on later true its all zero at = let same : x ≡ e = cc in subst (P 0) same all.0
at_test test P x xs rest e on later true its all (suc j) at = later all.1 j at
at_test test P x xs rest e on later false its all zero at =
    let same : x ≡ e = cc in
    let never : true ≡ false = sym on ∙ ap test (sym same) ∙ its in
    absurd (cc)
at_test test P x xs rest e on later false its all (suc j) at = later all j at

pub each_that : (test : Entry → Bool) (P : ℕ → Entry → Type 0) (es : List Entry) → EachThat test P es
    → (j : ℕ) (e : Entry) → slice_get es j ≡ Some e → test e ≡ true → P j e
each_that test P [] all j e at on = absurd (cc)
each_that test P (x ∷ xs) all j e at on =
    at_test test P x xs (EachThat test (λ j. P (suc j)) xs) e on (λ rest k there. each_that test (λ j. P (suc j)) xs rest k e there on) (test x) refl all j at

-- at an entry no lineage loses a write
abbrev pub LosesNone : App → List Entry → ℕ → Entry → Type 0
LosesNone app trace j e = (w : WriteId) → Brought app trace j e w → has_id w (carried_at app trace j e) ≡ true

abbrev pub hands : Entry → Bool
hands e = hands_all e.call

-- It is so where what came with all that its actor did before is carried.
all_pass : (test : WriteId → Bool) (ids : List WriteId) → list_all test ids ≡ true → (w : WriteId) → has_id w ids ≡ true → test w ≡ true
all_pass test [] all w has = absurd (cc)
all_pass test (v ∷ vs) all w has =
    let parts = and_parts (test v) (list_all test vs) all in
    elim (or_cases (is_id w v) (has_id w vs) has) [ inl here ↦ ap test (same_id w v here) ∙ parts.0 | inr more ↦ all_pass test vs parts.1 w more ]

-- whether it is, with this body in the place of that of its actor
abbrev pub keeps_with : App → List Entry → ℕ → Entry → Block → Bool
keeps_with app trace j e body =
    list_all (λ w. has_id w (carried_with app trace j e body)) (flat_map (brings app) (entries_by e.actor (take j trace)))

pub none_lost : (app : App) (trace : List Entry) (j : ℕ) (e : Entry)
    → list_all (λ w. has_id w (carried_at app trace j e)) (flat_map (brings app) (entries_by e.actor (take j trace))) ≡ true → LosesNone app trace j e
none_lost app trace j e all w b =
    let by_it : is_by e.actor b.entry ≡ true = sym (ap (λ who. is_by who b.entry) b.earlier.actor) ∙ same_actor_itself b.entry.actor in
    let did : List Entry = entries_by e.actor (take j trace) in
    let front : List Entry = entries_by e.actor (take b.place trace) in
    let cut = kept_between (is_by e.actor) trace b.place j b.entry b.there by_it b.earlier.before in
    let among : Contains did b.entry =
    subst (λ es. Contains es b.entry) (sym cut.1) (Contains-append_right front (b.entry ∷ cut.0) b.entry (0, omega arith, refl)) in
    all_pass (λ w. has_id w (carried_at app trace j e)) (flat_map (brings app) did) all w (joined_has (brings app) w did b.entry among b.came)

-- ---- the service

-- The store `s` is object 0, and the inbox of the service is object 1. Each of its two handlers has a request.
abbrev pub app_of : Block → Block → App
app_of one two =
    app_with (codes "eu" ∷ []) (store_in 0 (codes "kv") (codes "s") ∷ [])
    (service_in 0 (codes "w") (handler_with (codes "one") one ∷ handler_with (codes "two") two ∷ []) ∷ []) []
    (request_for 0 0 [] ∷ request_for 0 1 [] ∷ [])

abbrev pub first : Entry
first = taken_at 1 1 1 (codes "one") []

abbrev pub write : Entry
write = made 2 0 1 (born_at 1 1) 1 (calls.Write (codes "k") (codes "a") []) (replies.Written (codes "k") 1 None)

abbrev pub its : WriteId
its = id_for 0 (codes "k") 1

-- ---- a read that is not settled

abbrev pub write_read : Block
write_read = block_from (write_to (codes "s") (codes "k") (codes "a") ∷ read_as (codes "s") (codes "k") (codes "x") ∷ [])

abbrev pub unguarded : App
unguarded = app_of write_read (block_from (Nack ∷ []))

abbrev pub read_own : Entry
read_own = made 3 0 2 (born_at 1 1) 1 (calls.Read 0 (codes "k")) (shows (absent (codes "k")))

abbrev pub short : List Entry
short = first ∷ write ∷ read_own ∷ []

into_write : carried_at unguarded short 1 write ≡ []
into_write = ap (carried_with unguarded short 1 write) (block_again write_read)

into_own : carried_at unguarded short 2 read_own ≡ its ∷ []
into_own = ap (carried_with unguarded short 2 read_own) (block_again write_read)

-- what is carried has a replica in the region, and nothing looked for it
pub not_settled : IsSettled unguarded short 2 read_own → ⊥
not_settled settled =
    let looked = settled its (ap (has_id its) into_own) refl in
    each_that (λ a. has_id its (found_in a.call a.reply)) (λ i a. ⊥) short tt looked.place looked.entry looked.there looked.found

pub lossless : IsLossless unguarded short
lossless =
    let kept_at_write = ap (keeps_with unguarded short 1 write) (block_again write_read) in
    let kept_at_read = ap (keeps_with unguarded short 2 read_own) (block_again write_read) in
    each_that hands (LosesNone unguarded short) short
    (none_lost unguarded short 1 write kept_at_write, (none_lost unguarded short 2 read_own kept_at_read, tt))

-- ---- a write that loses another

abbrev pub write_alone : Block
write_alone = block_from (write_to (codes "s") (codes "k") (codes "a") ∷ [])

abbrev pub read_write : Block
read_write = block_from (read_as (codes "s") (codes "k") (codes "p") ∷ write_to (codes "s") (codes "j") (codes "b") ∷ [])

abbrev pub lossy : App
lossy = app_of write_alone read_write

abbrev pub second : Entry
second = taken_at 2 1 2 (codes "two") []

abbrev pub read : Entry
read = made 4 0 3 (born_at 1 2) 1 (calls.Read 0 (codes "k")) (shows (row_of (codes "k") 1 (codes "a") []))

abbrev pub last : Entry
last = made 5 0 4 (born_at 1 2) 1 (calls.Write (codes "j") (codes "b") []) (replies.Written (codes "j") 2 None)

abbrev pub long : List Entry
long = first ∷ write ∷ second ∷ made 3 0 2 (Carrier 0) 0 (calls.Ship 0 1 1) replies.Moved ∷ read ∷ last ∷ []

pub into_last : carried_at lossy long 5 last ≡ []
into_last = ap (carried_with lossy long 5 last) (block_again read_write)

-- the write that was read came to the span, and is not carried
pub came_to_last : Brought lossy long 5 last its
came_to_last =
    let earlier : Earlier 4 read 5 last = record { before = omega arith; process = refl; actor = refl; span = refl } in
    record { place = 4; entry = read; there = refl; earlier = earlier; came = refl }

pub loses : IsLossless lossy long → ⊥
loses lossless = not_none its (carried_at lossy long 5 last) into_last (lossless 5 last refl refl its came_to_last)

-- It is the first that loses one.
pub loses_none_before : (i : ℕ) (a : Entry) → i < 5 → slice_get long i ≡ Some a → hands a ≡ true → LosesNone lossy long i a
loses_none_before i a before at on =
    let kept_at_write = ap (keeps_with lossy long 1 write) (block_again write_alone) in
    let kept_at_read = ap (keeps_with lossy long 4 read) (block_again read_write) in
    each_that hands (λ j e. j < 5 → LosesNone lossy long j e) long
    (λ low. none_lost lossy long 1 write kept_at_write, (λ low. none_lost lossy long 4 read kept_at_read, (λ low. absurd (omega (arith, low)), tt)))
    i a at on before
