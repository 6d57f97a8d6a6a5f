-- What waits is not ready, and goes on to wait behind each entry that does not bring what it waits for.
use Rattle.std.proofs.Common.{◌≡◌, ℕ, ◌<◌, ◌≤◌, Bool, true, false, not, ◌&&◌, ◌||◌, List, [], ◌∷◌, ◌++◌, length, filter, find, refl, sym, ap, subst, ◌∙◌, append-nil, ◌==◌, leb, eqb-true, arith, is_some}
use Rattle.std.specs.Prelude.{flat_map}
use Rattle.std.specs.List.{list_any, list_all, Any}
use Rattle.std.proofs.lemmas.Bool.{and_parts, and_from, and_left, and_right, or_from, or_left, not-true, not_from_false, both_ways, false_from_ne_true, leb-true, le-leb, leb-false, lt-leb, false≢true, true≢false}
use Rattle.std.proofs.lemmas.List.Folds.{list_any_at, list_all_at, Any-from_list_any}
use Rattle.std.proofs.lemmas.List.Elements.{All-weaker}
use Rattle.std.proofs.lemmas.List.Sums.{AllPass-from_list_all, list_all-from_AllPass}
use Rattle.anti_ids.specs.declared.id.WriteId.{WriteId}
use Rattle.anti_kind.specs.Kinds.{facts_of}
use Rattle.anti_kind.specs.declared.awaited.Awaited.TheVariants.{Delivery, Handout, Reply, Version, Writing}
use Rattle.anti_kind.specs.declared.call.Call.{Call}
use Rattle.anti_kind.specs.declared.call.Call.TheVariants.{Write, Look, Ship, Nack, Pull, Post, Repost, Take, TakeReply}
use Rattle.anti_kind.specs.declared.call.Reply.TheVariants.{Done}
use Rattle.anti_kind.specs.declared.entry.Entry.{Entry}
use Rattle.anti_kind.specs.declared.message.Message.{Message}
use Rattle.anti_kind.specs.declared.message.MessageKind.{MessageKind}
use Rattle.anti_kind.specs.declared.message.MessageKind.TheVariants as kinds
use Rattle.anti_kind.specs.declared.row.Row.{Row}
use Rattle.anti_kind.specs.Stored.{rows, is_ship, is_shipped, shows_of}
use Rattle.anti_kind.specs.Store.{Store, is_replica, has_part, can_ship, is_visible, is_written, is_pull_by, is_nack, next, store_ready}
use Rattle.anti_kind.specs.Shipments.{shipments, next_shipment}
use Rattle.anti_kind.specs.Inbox.{delivered, deliveries, is_taken, takes, free, if_to, replied, has_reply, reply_is_taken, post_ready, post_due, inbox_ready, inbox_due}
use Rattle.anti_kind.specs.Objects.{store, inbox, Follows, IsLegal}
use Rattle.anti_kind.specs.Waiting.{lacks, waits, posted_as, brought, reaches, WaitingIsNotReady, WaitingGoesOn, NoneLeftGoesOn}
use Rattle.anti_kind.proofs.Finding.{filter_less}
use Rattle.anti_kind.proofs.Histories.{legal_front, follows_in}
use Rattle.anti_kind.proofs.Rows.{is_write, rows_other, shipped_kept}
use Rattle.anti_kind.proofs.Shipped.{ship_same}
use Rattle.anti_kind.proofs.NextShipments.{none_is_ready}
use Rattle.anti_kind.proofs.Showing.{written_stays}
use Rattle.anti_kind.proofs.Sources.{pull_of}
use Rattle.anti_kind.proofs.Deliveries.{deliveries_more, taken_more, answered_kept}
use Rattle.anti_kind.proofs.Whole.{shows_below}
use Rattle.anti_kind.proofs.Freed.{next_was_there}

-- What waits is not ready.

-- a look that lacks an id does not find all
not_all_visible : (s : Store) (h : List Entry) (g v : ℕ) (ids : List WriteId) → list_any (lacks s h g v) ids ≡ true → list_all (is_visible s h g) ids ≡ false
not_all_visible s h g v ids lacking =
    let found : Any (λ id. lacks s h g v id ≡ true) ids = Any-from_list_any (lacks s h g v) ids lacking in
    let off : is_visible s h g found.1 ≡ false = not-true (is_visible s h g found.1) (and_parts (found.1.version == v) (not (is_visible s h g found.1)) found.4).1 in
    list_all_at (is_visible s h g) ids found.0 found.1 found.2 (ap (is_visible s h g) found.3 ∙ off)

pub waiting_is_not_ready : WaitingIsNotReady
waiting_is_not_ready (inbox requests) h (Take nth) Delivery w = not-true (inbox_ready requests h (Take nth)) w
waiting_is_not_ready (inbox requests) h (TakeReply number) (Reply to) w =
    let both = and_parts (number == to) (not (has_reply h to)) w in
    and_left (has_reply h number) (not (reply_is_taken h number)) (ap (has_reply h) (eqb-true number to both.0) ∙ not-true (has_reply h to) both.1)
waiting_is_not_ready (store s) h (Pull sub) (Handout to) w = not-true (store_ready s h (Pull sub)) (and_parts (sub == to) _ w).1
waiting_is_not_ready (store s) h (Look g ids dry) (Version region v) w =
    let first = and_parts (g == region) _ (and_parts (not (facts_of s.kind).cached) _ w).1 in
    let second = and_parts (not dry) _ first.1 in
    let third = and_parts (list_all (is_written h) ids) (list_any (lacks s h g v) ids) second.1 in
    and_right (is_replica s g) _ (and_right (list_all (λ (id : WriteId). id.store == s.number) ids) _
    (or_from dry _ (not-true dry second.0)
    (or_from (list_all (is_visible s h g) ids) (not (list_all (is_written h) ids)) (not_all_visible s h g v ids third.1) (ap not third.0))))
waiting_is_not_ready _ h _ _ w = absurd (false≢true w)

-- A take waits for a delivery.

module _ (requests : List Message) (h : List Entry) (e : Entry) (l : IsLegal (inbox requests) (h ++ e ∷ [])) where
  abbrev follows : Follows (inbox requests) h e
  follows = follows_in (inbox requests) h e [] l

  posts_none : (m : Message) → e.call ≡ Post m → (k : MessageKind) → m.kind ≡ k → reaches (posted_as k m.to) Delivery ≡ false → delivered e.call e.reply ≡ []
  posts_none m is kinds.Reply kind off =
      let reply : e.reply ≡ Done = follows.reply ∙ ap (inbox_due requests h) is ∙ ap (post_due requests h) kind in
      ap (λ (c : Call). delivered c e.reply) is ∙ ap (delivered (Post m)) reply
  posts_none m is kinds.Request kind off =
      let on : post_ready requests h kinds.Request m.to ≡ true = ap (λ (k : MessageKind). post_ready requests h k m.to) (sym kind) ∙ ap (inbox_ready requests h) (sym is) ∙ follows.is_ready in
      absurd (cc)
  posts_none m is _ kind off = absurd (true≢false off)

  delivers_none : (c : Call) → e.call ≡ c → reaches (brought c) Delivery ≡ false → delivered e.call e.reply ≡ []
  delivers_none (Post m) is off = posts_none m is m.kind refl off
  delivers_none (Repost number) is off = absurd (cc)
  delivers_none _ is off = ap (λ (c : Call). delivered c e.reply) is

  not_taken_before : (n : ℕ) → not (is_taken (h ++ e ∷ []) n) ≡ true → not (is_taken h n) ≡ true
  not_taken_before n off =
      not_from_false (is_taken h n) (false_from_ne_true (is_taken h n) (λ on.
      both_ways (is_taken (h ++ e ∷ []) n) (not-true (is_taken (h ++ e ∷ []) n) off) (taken_more requests h e n ∙ or_left (is_taken h n) (takes n e.call e.reply) on)))

  free_less : reaches (brought e.call) Delivery ≡ false → length (free requests (h ++ e ∷ [])) ≤ length (free requests h)
  free_less off =
      let same : deliveries requests (h ++ e ∷ []) ≡ deliveries requests h =
      deliveries_more requests h e ∙ ap (λ (ns : List ℕ). deliveries requests h ++ ns) (delivers_none e.call refl off) ∙ append-nil (deliveries requests h) in
      subst (λ (ns : List ℕ). length (filter (λ n. not (is_taken (h ++ e ∷ []) n)) ns) ≤ length (free requests h)) (sym same)
      (filter_less (λ n. not (is_taken (h ++ e ∷ []) n)) (λ n. not (is_taken h n)) not_taken_before (deliveries requests h))

  take_waits : (nth : ℕ) → reaches (brought e.call) Delivery ≡ false → not (inbox_ready requests h (Take nth)) ≡ true → not (inbox_ready requests (h ++ e ∷ []) (Take nth)) ≡ true
  take_waits nth off was =
      not_from_false (inbox_ready requests (h ++ e ∷ []) (Take nth)) (false_from_ne_true (inbox_ready requests (h ++ e ∷ []) (Take nth)) (λ on.
      let both = and_parts (leb 1 nth) (leb nth (length (free requests (h ++ e ∷ [])))) on in
      let within : nth ≤ length (free requests h) = omega (arith, leb-true nth (length (free requests (h ++ e ∷ []))) both.1, free_less off) in
      both_ways (inbox_ready requests h (Take nth)) (not-true (inbox_ready requests h (Take nth)) was) (and_from (leb 1 nth) (leb nth (length (free requests h))) both.0 (le-leb nth (length (free requests h)) within))))

-- The taking of a reply waits for that reply.

posts_no_reply : (m : Message) (n : ℕ) (k : MessageKind) → reaches (posted_as k m.to) (Reply n) ≡ false → if_to n k m ≡ []
posts_no_reply m n kinds.Reply off = rw off refl
posts_no_reply m n _ off = refl

replies_none : (c : Call) (n : ℕ) → reaches (brought c) (Reply n) ≡ false → replied n c ≡ []
replies_none (Post m) n off = posts_no_reply m n m.kind off
replies_none _ n off = refl

-- A pull waits for what its subscription is handed out next.

ships_none : (c : Call) (n : ℕ) → reaches (brought c) (Handout n) ≡ false → (g v p : ℕ) → is_ship g v p c ≡ false
ships_none (Ship region version part) n off g v p = absurd (cc)
ships_none _ n off g v p = refl

nacks_none : (c : Call) (n : ℕ) → reaches (brought c) (Handout n) ≡ false → (v : ℕ) → is_nack v c ≡ false
nacks_none (Nack version) n off v = absurd (cc)
nacks_none _ n off v = refl

pull_waits : (s : Store) (h : List Entry) (e : Entry) (n : ℕ) → IsLegal (store s) (h ++ e ∷ []) → ((g v p : ℕ) → is_ship g v p e.call ≡ false) → ((v : ℕ) → is_nack v e.call ≡ false)
    → is_some (next s h n) ≡ false → is_some (next s (h ++ e ∷ []) n) ≡ false
pull_waits s h e n l ships nacks was =
    let follows : Follows (store s) h e = follows_in (store s) h e [] l in
    let other : is_pull_by n e.call ≡ false =
    false_from_ne_true (is_pull_by n e.call) (λ own. both_ways (is_some (next s h n)) was (ap (store_ready s h) (sym (pull_of n e.call own)) ∙ follows.is_ready)) in
    false_from_ne_true (is_some (next s (h ++ e ∷ []) n)) (λ on. both_ways (is_some (next s h n)) was (next_was_there s h e l ships nacks n other on))

-- A look waits for a version of an id that it lacks.

pub ships_below : (c : Call) (g v : ℕ) → reaches (brought c) (Version g v) ≡ false → (w : ℕ) → v ≤ w → (p : ℕ) → is_ship g w p c ≡ false
ships_below (Ship region version part) g v off w above p =
    false_from_ne_true (is_ship g w p (Ship region version part)) (λ on.
    let first = and_parts (region == g) _ on in
    let second = and_parts (version == w) (part == p) first.1 in
    let same : version ≡ w = eqb-true version w second.0 in
    both_ways ((region == g) && leb v version) off (and_from (region == g) (leb v version) first.0 (le-leb v version (omega arith))))
ships_below _ g v off w above p = refl

module _ (s : Store) (is : s.shows ≡ shows_of s.kind) (h : List Entry) (e : Entry) (l : IsLegal (store s) (h ++ e ∷ [])) where
  still_lacks : (g v : ℕ) → reaches (brought e.call) (Version g v) ≡ false → (id : WriteId) → lacks s h g v id ≡ true → lacks s (h ++ e ∷ []) g v id ≡ true
  still_lacks g v off id was =
      let both = and_parts (id.version == v) (not (is_visible s h g id)) was in
      let version : id.version ≡ v = eqb-true id.version v both.0 in
      let shows : (k : List Entry) → s.shows k g id.key ≡ shows_of s.kind k g id.key = λ k. ap (λ (f : List Entry → ℕ → List ℕ → ℕ). f k g id.key) is in
      let before : shows_of s.kind h g id.key < v = omega (arith, shows h, leb-false id.version (s.shows h g id.key) (not-true (is_visible s h g id) both.1)) in
      let now : shows_of s.kind (h ++ e ∷ []) g id.key < v = shows_below s h e l g id.key v (ships_below e.call g v off) before in
      and_from (id.version == v) (not (is_visible s (h ++ e ∷ []) g id)) both.0
      (not_from_false (is_visible s (h ++ e ∷ []) g id) (lt-leb id.version (s.shows (h ++ e ∷ []) g id.key) (omega (arith, shows (h ++ e ∷ [])))))

  any_lacks : (g v : ℕ) → reaches (brought e.call) (Version g v) ≡ false → (ids : List WriteId) → list_any (lacks s h g v) ids ≡ true → list_any (lacks s (h ++ e ∷ []) g v) ids ≡ true
  any_lacks g v off ids was =
      let found : Any (λ id. lacks s h g v id ≡ true) ids = Any-from_list_any (lacks s h g v) ids was in
      list_any_at (lacks s (h ++ e ∷ []) g v) ids found.0 found.1 found.2 (ap (lacks s (h ++ e ∷ []) g v) found.3 ∙ still_lacks g v off found.1 found.4)

all_written : (h rest : List Entry) (ids : List WriteId) → list_all (is_written h) ids ≡ true → list_all (is_written (h ++ rest)) ids ≡ true
all_written h rest ids was =
    list_all-from_AllPass (is_written (h ++ rest)) ids
    (All-weaker (λ (id : WriteId). is_written h id ≡ true) (λ (id : WriteId). is_written (h ++ rest) id ≡ true) (written_stays h rest) ids (AllPass-from_list_all (is_written h) ids was))

look_waits : (s : Store) → ((facts_of s.kind).cached ≡ false → s.shows ≡ shows_of s.kind) → (h : List Entry) (e : Entry) → IsLegal (store s) (h ++ e ∷ []) → (g : ℕ) (ids : List WriteId) (dry : Bool) (region v : ℕ)
    → reaches (brought e.call) (Version region v) ≡ false → waits (store s) h (Look g ids dry) (Version region v) ≡ true → waits (store s) (h ++ e ∷ []) (Look g ids dry) (Version region v) ≡ true
look_waits s whole h e l g ids dry region v off was =
    let outer = and_parts (not (facts_of s.kind).cached) _ was in
    let is : s.shows ≡ shows_of s.kind = whole (not-true (facts_of s.kind).cached outer.0) in
    let first = and_parts (g == region) _ outer.1 in
    let second = and_parts (not dry) _ first.1 in
    let third = and_parts (list_all (is_written h) ids) (list_any (lacks s h g v) ids) second.1 in
    let off' : reaches (brought e.call) (Version g v) ≡ false = ap (λ (at : ℕ). reaches (brought e.call) (Version at v)) (eqb-true g region first.0) ∙ off in
    and_from (not (facts_of s.kind).cached) _ outer.0 (and_from (g == region) _ first.0 (and_from (not dry) _ second.0
    (and_from (list_all (is_written (h ++ e ∷ [])) ids) _ (all_written h (e ∷ []) ids third.0) (any_lacks s is h e l g v off' ids third.1))))

-- So what waits goes on to wait.
pub waiting_goes_on : WaitingGoesOn
waiting_goes_on (inbox requests) h e (Take nth) Delivery whole l was off = take_waits requests h e l nth off was
waiting_goes_on (inbox requests) h e (TakeReply number) (Reply to) whole l was off =
    let both = and_parts (number == to) (not (has_reply h to)) was in
    and_from (number == to) _ both.0 (ap not (answered_kept requests h e to (replies_none e.call to off)) ∙ both.1)
waiting_goes_on (store s) h e (Pull sub) (Handout to) whole l was off =
    let both = and_parts (sub == to) _ was in
    and_from (sub == to) _ both.0
    (ap not (pull_waits s h e sub l (ships_none e.call to off) (nacks_none e.call to off) (not-true (is_some (next s h sub)) both.1)))
waiting_goes_on (store s) h e (Look g ids dry) (Version region v) whole l was off = look_waits s whole h e l g ids dry region v off was
waiting_goes_on _ h e _ _ whole l was off = absurd (false≢true was)

-- Where nothing is left to be shipped.

no_write : (c : Call) → reaches (brought c) Writing ≡ false → is_write c ≡ false
no_write (Write key value lineage) off = absurd (cc)
no_write _ off = refl

-- the next shipment is the same behind an entry that writes nothing and ships nothing there
next_same : (s : Store) (h : List Entry) (e : Entry) (g : ℕ) → is_write e.call ≡ false → ((v p : ℕ) → is_ship g v p e.call ≡ false) → next_shipment s (h ++ e ∷ []) g ≡ next_shipment s h g
next_same s h e g writes ships =
    let rows_same : rows (h ++ e ∷ []) ≡ rows h = rows_other h e writes in
    let same : (v p : ℕ) → is_shipped (h ++ e ∷ []) g v p ≡ is_shipped h g v p = λ v p. shipped_kept h e g v p (ships v p) in
    let can : (v p : ℕ) → can_ship s (h ++ e ∷ []) g v p ≡ can_ship s h g v p = λ v p i.
    is_replica s g && (has_part s.kind (find (λ (r : Row). r.version == v) (rows_same i)) p
    && (not (same v p i) && (not (facts_of s.kind).ordered || list_all (λ (r : Row). leb v r.version || same r.version 1 i) (rows_same i)))) in
    λ i. find (λ (x : ℕ × ℕ). can x.0 x.1 i) (flat_map (shipments s.kind) (rows_same i))

pub none_left_goes_on : NoneLeftGoesOn
none_left_goes_on (inbox requests) h e g l none off = refl
none_left_goes_on (store s) h e g l none off =
    let follows : Follows (store s) h e = follows_in (store s) h e [] l in
    let ships : (v p : ℕ) → is_ship g v p e.call ≡ false = λ v p.
    false_from_ne_true (is_ship g v p e.call) (λ on.
    both_ways (can_ship s h g v p) (none_is_ready s h g (legal_front (store s) h (e ∷ []) l) none v p) (ap (store_ready s h) (sym (ship_same g v p e.call on)) ∙ follows.is_ready)) in
    next_same s h e g (no_write e.call off) ships ∙ none
