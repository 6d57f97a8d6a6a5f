-- What a known call of an object is due is known too.
use Rattle.std.proofs.Common.{◌≡◌, ◌⊎◌, ⊎_elim, inl, ℕ, zero, suc, ◌+◌, ◌-◌, ◌<◌, ◌≤◌, ◌^◌, Bool, true, false, not, cond, List, [], ◌∷◌, ◌++◌, length, get_or, refl, sym, ap, ◌∙◌, eqb-true, subst, arith, length-append, unwrap_or}
use Rattle.std.specs.Prelude.{All, IfSome, IsTrue, Option, None, Some, find, flat_map, option_and_then, option_map, slice_get, nat_eq, nat_lt, nat_le, bytes_eq, count_by, decimal, ◌==◌, ◌||◌}
use Rattle.std.specs.List.{list_all}
use Rattle.std.specs.Option.{option_map_or}
use Rattle.std.proofs.lemmas.Bool.{or_right, or_left, and_parts, and_from, cases_lt, leb-true, le-leb, lt-ltb}
use Rattle.std.proofs.lemmas.Fmt.{decimal_is_IsNumeral, length-decimal-le}
use Rattle.std.proofs.lemmas.List.{length-map}
use Rattle.std.proofs.lemmas.List.Concat.{flat_map-cons}
use Rattle.std.proofs.lemmas.List.Sums.{count_by-le-length}
use Rattle.std.proofs.lemmas.Str.Parse.{digit_at}
use Rattle.std.proofs.lemmas.List.Elements.{All-head, All-tail}
use Rattle.std.proofs.lemmas.Option.{slice_get_within, get_or_from_slice_get}
use Rattle.anti_ids.specs.Each.{Each}
use Rattle.std.specs.Char.{is_ascii_alphanumeric}
use Rattle.std.specs.Int.{is_in_range}
use Rattle.anti_ids.specs.Names.{is_name, is_name_byte, is_plain, is_plain_byte}
use Rattle.anti_ids.specs.Ids.{has_id, with_ids}
use Rattle.anti_ids.specs.declared.id.WriteId.{WriteId}
use Rattle.anti_ids.proofs.IdLemmas.{each_filter, each_with_ids, lineage_with_ids}
use Rattle.anti_ids.specs.declared.limits.TheConstants.{MOST_IDS, MOST_UNITS}
use Rattle.anti_kind.specs.Kinds.{facts_of}
use Rattle.anti_kind.specs.declared.call.Call.{Call}
use Rattle.anti_kind.specs.declared.call.Call.TheVariants as calls
use Rattle.anti_kind.specs.declared.entry.Entry.{Entry}
use Rattle.anti_kind.specs.declared.message.Message.{Message}
use Rattle.anti_kind.specs.declared.message.MessageKind.{MessageKind}
use Rattle.anti_kind.specs.declared.message.MessageKind.TheVariants as kinds
use Rattle.anti_kind.specs.declared.call.Reply.{Reply}
use Rattle.anti_kind.specs.declared.call.Reply.TheVariants as replies
use Rattle.anti_kind.specs.declared.row.Row.{Row}
use Rattle.anti_kind.specs.declared.store_kind.StoreKind.{StoreKind}
use Rattle.anti_kind.specs.Inbox.{if_to, free, got_of, handed, inbox_due, listed, messages, numbered, post_due, posted, replied}
use Rattle.anti_kind.specs.Inbox as inboxes
use Rattle.anti_kind.specs.Fulls.{HasAscending}
use Rattle.anti_kind.specs.Objects.{Start, store, IsLegal, ready, due, fits, held, need, owed}
use Rattle.anti_kind.specs.Caches.{store_with}
use Rattle.anti_kind.specs.Store.{Store, absent, is_visible, is_written, key_for, left_by, next, over, replaced, scanned, shown_row, store_due, store_need, store_ready, told_over, with_left, with_replaced}
use Rattle.anti_kind.specs.Stored.{greatest, is_in, rows, row_of, wrote}
use Rattle.anti_kind.proofs.Bounds.{length_within}
use Rattle.anti_kind.proofs.Finding.{Found, find_found}
use Rattle.anti_kind.proofs.Sources.{rows_have_sources}
use Rattle.anti_kind.specs.Laws.{IsOfWrite, RowsHaveSources}
use Rattle.anti_kind.proofs.Overs.{fitting}
use Rattle.anti_kind.proofs.Rows.{row_of_none, rows_length}
use Rattle.anti_kind.proofs.Showing.{same_bytes}
use Rattle.anti_app.specs.declared.app.App.{App}
use Rattle.anti_app.specs.declared.app.HandlerDef.{HandlerDef}
use Rattle.anti_app.specs.declared.app.RequestDef.{RequestDef}
use Rattle.anti_app.specs.declared.app.ServiceDef.{ServiceDef}
use Rattle.anti_app.specs.declared.app.StoreDef.{StoreDef}
use Rattle.anti_app.specs.Objects.{has_named, object_at}
use Rattle.anti_app.specs.Sound.{is_sound}
use Rattle.anti_app.specs.Subs.{subs_on}
use Rattle.anti_object.specs.Starts.{start_at, start_of, store_start, inbox_start, message_of, message_to, requests_to, room_of, tries_of}
use Rattle.anti_object.proofs.Starts.{start_sound}
use Rattle.anti_proc.specs.Known.{AreIdsOf, IsCallAt, IsMessageTo, IsOverApp, IsReplyAt, IsRowOf}
use Rattle.anti_proc.specs.Local.{id_at}
use Rattle.anti_app.specs.declared.objects.ObjectAt.{ObjectAt}
use Rattle.anti_app.specs.declared.objects.ObjectAt.TheVariants.{Store as AStore, Inbox as AnInbox}
use Rattle.anti_app.specs.Numbers.{IsStore, service_at}
use Rattle.anti_trace.proofs.Numbers.{inbox_is, store_is}

-- ---- facts of each item of a list

module _ {X : Type 0} (P : X → Type 0) where
  each_append : (xs ys : List X) → Each P xs → Each P ys → Each P (xs ++ ys)
  each_append [] ys one two = two
  each_append (x ∷ xs) ys one two = (one.0, each_append xs ys one.1 two)

  each_in : (xs : List X) (i : ℕ) (d : X) → Each P xs → i < length xs → P (get_or xs i d)
  each_in [] i d each lt = absurd (omega arith)
  each_in (x ∷ xs) zero d each lt = each.0
  each_in (x ∷ xs) (suc i) d each lt = each_in xs i d each.1 (omega arith)

  each_at : (xs : List X) (i : ℕ) (x : X) → Each P xs → slice_get xs i ≡ Some x → P x
  each_at xs i x each at = subst P (get_or_from_slice_get xs i x x at) (each_in xs i x each (slice_get_within xs i x at))

  each_found : (p : X → Bool) (xs : List X) (x : X) → Each P xs → find p xs ≡ Some x → P x
  each_found p xs x each is = let found : Found p xs x = find_found p xs x is in subst P (found.at x) (each_in xs found.index x each found.within)

each_flat_map : {X Y : Type 0} (P : X → Type 0) (Q : Y → Type 0) (f : X → List Y) → ((x : X) → P x → Each Q (f x)) → (xs : List X) → Each P xs → Each Q (flat_map f xs)
each_flat_map P Q f from [] each = tt
each_flat_map P Q f from (x ∷ xs) each =
    subst (Each Q) (sym (flat_map-cons f x xs)) (each_append Q (f x) (flat_map f xs) (from x each.0) (each_flat_map P Q f from xs each.1))

pub each_all : {X : Type 0} (P : X → Type 0) (xs : List X) → All P xs → Each P xs
each_all P [] all = tt
each_all P (x ∷ xs) all = (All-head P x xs all, each_all P xs (All-tail P x xs all))

-- ---- the keys of writes

digit_named : (b : ℕ) → (48 ≤ b) × (b ≤ 57) → is_name_byte b ≡ true
digit_named b digit =
    let is_digit : is_in_range 48 57 b ≡ true = and_from (nat_le 48 b) (nat_le b 57) (le-leb 48 b digit.0) (le-leb b 57 digit.1) in
    or_left (is_plain_byte b) (b == 35)
    (or_left (is_ascii_alphanumeric b) (b == 95 || b == 45)
    (or_left (is_in_range 48 57 b || is_in_range 65 90 b) (is_in_range 97 122 b) (or_left (is_in_range 48 57 b) (is_in_range 65 90 b) is_digit)))

plain_named : (bytes rest : List ℕ) → list_all is_plain_byte bytes ≡ true → list_all is_name_byte rest ≡ true → list_all is_name_byte (bytes ++ rest) ≡ true
plain_named [] rest plain named = named
plain_named (b ∷ bytes) rest plain named =
    let parts = and_parts (is_plain_byte b) (list_all is_plain_byte bytes) plain in
    and_from (is_name_byte b) (list_all is_name_byte (bytes ++ rest)) (or_left (is_plain_byte b) (b == 35) parts.0) (plain_named bytes rest parts.1 named)

all_named : (bytes : List ℕ) → ((i : ℕ) → i < length bytes → is_name_byte (get_or bytes i 0) ≡ true) → list_all is_name_byte bytes ≡ true
all_named [] each = refl
all_named (b ∷ bytes) each =
    and_from (is_name_byte b) (list_all is_name_byte bytes) (each 0 (omega arith)) (all_named bytes (λ i lt. each (suc i) (omega arith)))

-- a plain name, the mark and a number of four digits are a name
cell_named : (channel : List ℕ) (n : ℕ) → is_plain channel ≡ true → n < 10 ^ 4 → is_name (channel ++ 35 ∷ decimal n) ≡ true
cell_named channel n plain few =
    let size = and_parts (nat_lt 0 (length channel)) _ plain in
    let short = and_parts (nat_le (length channel) 24) (list_all is_plain_byte channel) size.1 in
    let few_bytes : length channel ≤ 24 = leb-true (length channel) 24 short.0 in
    let digits : length (decimal n) ≤ 4 = length-decimal-le 4 n (omega arith) few (omega arith) in
    let count : length (channel ++ 35 ∷ decimal n) ≡ length channel + length (35 ∷ decimal n) = length-append channel (35 ∷ decimal n) in
    and_from (nat_lt 0 (length (channel ++ 35 ∷ decimal n))) _ (lt-ltb 0 (length (channel ++ 35 ∷ decimal n)) (omega arith))
    (and_from (nat_le (length (channel ++ 35 ∷ decimal n)) 32) _ (le-leb (length (channel ++ 35 ∷ decimal n)) 32 (omega arith))
    (plain_named channel (35 ∷ decimal n) short.1 (all_named (decimal n) (λ i lt. digit_named (get_or (decimal n) i 0) (digit_at (decimal n) i (decimal_is_IsNumeral n (omega arith)).0.1 lt)))))

-- a channel has no more cells than its store has entries
few_cells : (h : List Entry) (key : List ℕ) → length h ≤ MOST_UNITS → count_by (is_in key) (rows h) + 1 < 10 ^ 4
few_cells h key short = omega (arith, count_by-le-length (is_in key) (rows h), rows_length h)

key_named : (kind : StoreKind) (h : List Entry) (key : List ℕ) → length h ≤ MOST_UNITS → is_name key ≡ true → ((facts_of kind).keyed || is_plain key) ≡ true
    → is_name (key_for kind h key) ≡ true
key_named kind h key short named is_ready = by_keys (facts_of kind).keyed is_ready
  where
    by_keys : (keyed : Bool) → (keyed || is_plain key) ≡ true → is_name (cond keyed key (key ++ 35 ∷ decimal (count_by (is_in key) (rows h) + 1))) ≡ true
    by_keys true is_ready = named
    by_keys false plain = cell_named key (count_by (is_in key) (rows h) + 1) plain (few_cells h key short)

module _ (app : App) (o : ℕ) where
  -- an entry of the object, by its call and its reply
  abbrev pub KnownAt : Entry → Type 0
  KnownAt e = IsCallAt app o e.call × IsReplyAt app o e.reply

  -- ---- a store

  -- the id of a version of a key
  ids_at : (key : List ℕ) (version : ℕ) → IsStore app o → is_name key ≡ true → version < 2 ^ 64 → AreIdsOf app (id_at o key version)
  ids_at key version within name few = by_test (nat_lt 0 version)
    where
      by_test : (some : Bool) → AreIdsOf app (cond some (record { store = o; key = key; version = version } ∷ []) [])
      by_test true = ((omega (arith, length-map app.stores.items (λ (s : StoreDef). s.name)), name, few), tt)
      by_test false = tt

  -- a written row
  wrote_known : (c : Call) (r : Reply) → IsCallAt app o c → IsReplyAt app o r → Each (IsRowOf app o) (wrote c r)
  wrote_known (calls.Write key value lineage) (replies.Written written version None) call reply = (record { id = reply.0; lineage = call.1 }, tt)
  wrote_known (calls.Write key value lineage) (replies.Written written version (Some kept)) call reply = (record { id = reply.0; lineage = reply.1 }, tt)
  wrote_known _ r call reply = tt

  rows_known : (h : List Entry) → Each KnownAt h → Each (IsRowOf app o) (rows h)
  rows_known h known = each_flat_map KnownAt (IsRowOf app o) (λ e. wrote e.call e.reply) (λ e k. wrote_known e.call e.reply k.0 k.1) h known

  none_over : IsOverApp app []
  none_over = record { lineage = record { ascending = tt; written = tt; short = omega arith }; each = tt }

  -- ---- a store

  absent_known : (key : List ℕ) → IsRowOf app o (absent key)
  absent_known key = record { id = tt; lineage = none_over }

  module _ (s : Store) (h : List Entry) (known : Each KnownAt h) where
    -- a row of a write
    source_known : (r : Row) → IsOfWrite h r → IsRowOf app o r
    source_known r of_write = each_found (IsRowOf app o) (λ x. x.version == r.version) (rows h) r (rows_known h known) of_write

    -- the rows that are shown: of writes, or absent
    shown_known : (rs : List Row) → All (λ r. (r ≡ absent r.key) ⊎ IsOfWrite h r) rs → Each (IsRowOf app o) rs
    shown_known rs sourced = each_all (IsRowOf app o) rs (λ k d lt.
        let r : Row = get_or rs k d in
        ⊎_elim (λ (none : r ≡ absent r.key). subst (IsRowOf app o) (sym none) (absent_known r.key)) (source_known r) (sourced k d lt))

    module _ (within : IsStore app o) (short : length h ≤ MOST_UNITS) (legal : IsLegal (store s) h) where
      sources : RowsHaveSources s
      sources = rows_have_sources s

      -- the id of the write that one to a key replaces
      replaced_written : (key : List ℕ) (r : Row) → replaced h key ≡ Some r → 1 ≤ r.version
      replaced_written key r is =
          let v = greatest (λ (x : Row). true) key (rows h) in
          let same : r.version ≡ v = eqb-true r.version v (find_found (λ (x : Row). x.version == v) (rows h) r is).passes in
          ⊎_elim (λ (low : v < 1). absurd (let both : None ≡ Some r = sym (row_of_none s h legal v (inl (omega arith))) ∙ is in cc)) (λ (some : 1 ≤ v). omega arith) (cases_lt v 1)

      replaced_known : (number : s.number ≡ o) (key : List ℕ) (r : Row) → replaced h key ≡ Some r → IsRowOf app o r
          → AreIdsOf app (record { store = s.number; key = r.key; version = r.version } ∷ [])
      replaced_known number key r is row =
          let id : WriteId = record { store = o; key = r.key; version = r.version } in
          let known : AreIdsOf app (id ∷ []) = subst (λ (some : Bool). AreIdsOf app (cond some (id ∷ []) [])) (lt-ltb 0 r.version (replaced_written key r is)) row.id in
          subst (λ (n : ℕ). AreIdsOf app (record { store = n; key = r.key; version = r.version } ∷ [])) (sym number) known

      -- what a write tells that it keeps, where that is no more than a lineage may have
      new_known : s.number ≡ o → (key : List ℕ) (r : Row) → replaced h key ≡ Some r → (lineage : List WriteId) → IsOverApp app lineage → (all : Bool)
          → length (unwrap_or (cond all None (Some (with_ids (left_by s.number (Some r)) lineage))) lineage) ≤ MOST_IDS
          → IfSome (cond all None (Some (with_ids (left_by s.number (Some r)) lineage))) (IsOverApp app)
      new_known number key r is lineage own true few = tt
      new_known number key r is lineage own false few =
          let row : IsRowOf app o r = each_found (IsRowOf app o) (λ x. x.version == greatest (λ (x : Row). true) key (rows h)) (rows h) r (rows_known h known) is in
          let left : List WriteId = left_by s.number (Some r) in
          record {
            lineage = lineage_with_ids left lineage (with_ids left lineage) (replaced_written key r is, row.lineage.lineage.written) own.lineage refl few;
            each = each_with_ids _ left lineage ((replaced_known number key r is row).0, row.lineage.each) own.each;
          }

      kept_known : s.number ≡ o → (key : List ℕ) (lineage : List WriteId) → IsOverApp app lineage → length (over s h key lineage) ≤ MOST_IDS → IfSome (told_over s h key lineage) (IsOverApp app)
      kept_known number key lineage own few = by_row (replaced h key) refl few
        where
          by_row : (found : Option Row) → replaced h key ≡ found → length (with_replaced s.number found lineage) ≤ MOST_IDS → IfSome (with_left (left_by s.number found) lineage) (IsOverApp app)
          by_row None is few = tt
          by_row (Some r) is few = new_known number key r is lineage own (list_all (λ i. has_id i lineage) (left_by s.number (Some r))) few

      store_known : s.number ≡ o → (c : Call) → IsCallAt app o c → store_ready s h c ≡ true → store_need s h c ≤ MOST_UNITS → IsReplyAt app o (store_due s h c)
      store_known number (calls.Write key value lineage) call is_ready enough = (
        ids_at (key_for s.kind h key) (length (rows h) + 1) within (key_named s.kind h key short call.0 is_ready) (omega (arith, rows_length h)),
        kept_known number key lineage call.1 (fitting s h key value lineage enough).0,
      )
      store_known number (calls.Look g ids dry) call is_ready enough =
          (each_filter _ (λ id. not (is_visible s h g id)) ids call.each, each_filter _ (λ id. not (is_written h id)) ids call.each)
      store_known number (calls.Read g key) call is_ready enough = shown_known (shown_row s h g key ∷ []) (sources h (calls.Read g key) legal is_ready)
      store_known number (calls.Scan g prefix) call is_ready enough = shown_known (scanned s h g prefix) (sources h (calls.Scan g prefix) legal is_ready)
      store_known number (calls.Poll g key) call is_ready enough = shown_known (shown_row s h g key ∷ []) (sources h (calls.Poll g key) legal is_ready)
      store_known number (calls.Pull n) call is_ready enough = source_known (unwrap_or (next s h n) (absent [])) (sources h (calls.Pull n) legal is_ready)
      store_known number (calls.Repull n v) call is_ready enough = source_known (unwrap_or (row_of h v) (absent [])) (sources h (calls.Repull n v) legal is_ready)
      store_known number _ call is_ready enough = tt

  -- ---- an inbox

  -- what a post posted
  listed_known : (kind : MessageKind) (m : Message) → IsMessageTo app o m → Each (IsMessageTo app o) (listed kind m)
  listed_known kinds.Call m known = (known, tt)
  listed_known kinds.Send m known = (known, tt)
  listed_known _ m known = tt

  posted_known : (c : Call) → IsCallAt app o c → Each (IsMessageTo app o) (posted c)
  posted_known (calls.Post m) call = listed_known m.kind m call
  posted_known _ call = tt

  if_same : (same : Bool) (m : Message) → IsMessageTo app o m → Each (IsMessageTo app o) (cond same (m ∷ []) [])
  if_same true m known = (known, tt)
  if_same false m known = tt

  addressed_known : (n : ℕ) (kind : MessageKind) (m : Message) → IsMessageTo app o m → Each (IsMessageTo app o) (if_to n kind m)
  addressed_known n kinds.Reply m known = if_same (m.to == n) m known
  addressed_known n _ m known = tt

  replied_known : (n : ℕ) (c : Call) → IsCallAt app o c → Each (IsMessageTo app o) (replied n c)
  replied_known n (calls.Post m) call = addressed_known n m.kind m call
  replied_known n _ call = tt

  got_known : (n : ℕ) (found : Option Message) → ((m : Message) → found ≡ Some m → IsMessageTo app o m) → IsReplyAt app o (got_of n found)
  got_known n None known = tt
  got_known n (Some m) known = known m refl

  numbered_known : (ms : List Message) (n : ℕ) (m : Message) → Each (IsMessageTo app o) ms → numbered ms n ≡ Some m → IsMessageTo app o m
  numbered_known ms n m each is = by_test (nat_lt 0 n) is
    where
      by_test : (some : Bool) → cond some (slice_get ms (n - 1)) None ≡ Some m → IsMessageTo app o m
      by_test true is = each_at (IsMessageTo app o) ms (n - 1) m each is
      by_test false is = absurd (cc)

  handed_known : (ms : List Message) (number : Option ℕ) → Each (IsMessageTo app o) ms → IsReplyAt app o (handed ms number)
  handed_known ms None each = tt
  handed_known ms (Some n) each = got_known n (numbered ms n) (λ m is. numbered_known ms n m each is)

  post_known : (requests : List Message) (h : List Entry) (kind : MessageKind) → IsReplyAt app o (post_due requests h kind)
  post_known requests h kinds.Reply = tt
  post_known requests h _ = tt

  module _ (requests : List Message) (h : List Entry) (asked : Each (IsMessageTo app o) requests) (known : Each KnownAt h) where
    messages_known : Each (IsMessageTo app o) (messages requests h)
    messages_known =
        each_append (IsMessageTo app o) requests (flat_map (λ e. posted e.call) h) asked
        (each_flat_map KnownAt (IsMessageTo app o) (λ e. posted e.call) (λ e k. posted_known e.call k.0) h known)

    replies_known : (n : ℕ) → Each (IsMessageTo app o) (inboxes.replies h n)
    replies_known n = each_flat_map KnownAt (IsMessageTo app o) (λ e. replied n e.call) (λ e k. replied_known n e.call k.0) h known

    inbox_known : (c : Call) → IsReplyAt app o (inbox_due requests h c)
    inbox_known (calls.Post m) = post_known requests h m.kind
    inbox_known (calls.Take nth) = handed_known (messages requests h) (numbered (free requests h) nth) messages_known
    inbox_known (calls.TakeReply n) =
        got_known n (slice_get (inboxes.replies h n) 0) (λ m is. each_at (IsMessageTo app o) (inboxes.replies h n) 0 m (replies_known n) is)
    inbox_known _ = tt

  -- ---- requests

  has_name : (handlers : List HandlerDef) (i : ℕ) (d : HandlerDef) → i < length handlers → has_named (get_or handlers i d).name handlers ≡ true
  has_name [] i d lt = absurd (omega arith)
  has_name (x ∷ xs) zero d lt = ap (λ (b : Bool). b || has_named x.name xs) (same_bytes x.name x.name refl)
  has_name (x ∷ xs) (suc i) d lt =
      or_right (bytes_eq x.name (get_or xs i d).name) (has_named (get_or xs i d).name xs) (has_name xs i d (omega arith))

  module _ (s : ServiceDef) (there : slice_get app.services.items (service_at app o) ≡ Some s) where
    message_known : (r : RequestDef) (handler : Option HandlerDef) → slice_get s.handlers.items r.handler ≡ handler → Each (IsMessageTo app o) (message_to r handler)
    message_known r None at = tt
    message_known r (Some h) at = (
      record {
        handler =
            let named : has_named h.name s.handlers.items ≡ true = subst (λ (x : HandlerDef). has_named x.name s.handlers.items ≡ true)
            (get_or_from_slice_get s.handlers.items r.handler h h at) (has_name s.handlers.items r.handler h (slice_get_within s.handlers.items r.handler h at)) in
            ap (λ (found : Option ServiceDef). option_map_or (λ x. has_named h.name x.handlers.items) found false) there ∙ named;
        depth = omega arith;
        baggage = refl;
      },
      tt,
    )

    request_known : (r : RequestDef) → Each (IsMessageTo app o) (message_of s (service_at app o) r)
    request_known r = by_test (nat_eq r.service (service_at app o))
      where
        by_test : (here : Bool) → Each (IsMessageTo app o) (cond here (message_to r (slice_get s.handlers.items r.handler)) [])
        by_test true = message_known r (slice_get s.handlers.items r.handler) refl
        by_test false = tt

    every : (rs : List RequestDef) → Each (λ r. Unit {0}) rs
    every [] = tt
    every (r ∷ rs) = (tt, every rs)

    requests_known : Each (IsMessageTo app o) (requests_to app s (service_at app o))
    requests_known =
        each_flat_map (λ r. Unit {0}) (IsMessageTo app o) (message_of s (service_at app o)) (λ r here. request_known r) app.requests.items (every app.requests.items)

  -- ---- each object

  abbrev IsDue : List Entry → Call → Start → Type 0
  IsDue h c start = length h ≤ MOST_UNITS → IsLegal start h → ready start h c ≡ true → need start h c ≤ MOST_UNITS → IsReplyAt app o (due start h c)

  module _ (h : List Entry) (known : Each KnownAt h) (c : Call) (call : IsCallAt app o c) (start : Start) where
    of_store : IsStore app o → (found : Option StoreDef) → option_map (store_start app o) found ≡ Some start → IsDue h c start
    of_store within None is = absurd (cc)
    of_store within (Some s) is =
        let same : store_start app o s ≡ start = cc in
        subst (IsDue h c) same
        (λ short legal is_ready enough. store_known (store_with s.kind o s.replicas.items (subs_on app o) (tries_of s) (room_of s)) h known within short legal refl c call is_ready enough)

    of_inbox : (found : Option ServiceDef) → slice_get app.services.items (service_at app o) ≡ found → option_map (inbox_start app (service_at app o)) found ≡ Some start → IsDue h c start
    of_inbox None at is = absurd (cc)
    of_inbox (Some s) at is =
        let same : inbox_start app (service_at app o) s ≡ start = cc in
        subst (IsDue h c) same (λ short legal is_ready enough. inbox_known (requests_to app s (service_at app o)) h (requests_known s at) known c)

    is_due : start_of app o ≡ Some start → IsDue h c start
    is_due there = by_object (object_at app o) refl there
      where
        by_object : (at : Option ObjectAt) → object_at app o ≡ at → option_and_then (start_at app) at ≡ Some start → IsDue h c start
        by_object None at is = absurd (cc)
        by_object (Some (AStore n)) at is =
            let known_store = store_is app o n at in
            of_store known_store.1 (slice_get app.stores.items o) (subst (λ (k : ℕ). option_map (store_start app k) (slice_get app.stores.items k) ≡ Some start) known_store.0 is)
        by_object (Some (AnInbox service)) at is =
            of_inbox (slice_get app.services.items (service_at app o)) refl
            (subst (λ (k : ℕ). option_map (inbox_start app k) (slice_get app.services.items k) ≡ Some start) (inbox_is app o service at).0 is)

-- A known call hands in a lineage, if it is a write.
pub call_ascends : (app : App) (o : ℕ) (c : Call) → IsCallAt app o c → HasAscending c
call_ascends app o (calls.Write key value lineage) known = known.1.lineage.ascending
call_ascends app o _ known = tt

-- After a legal history of an object, whose entries are known, a known call that is ready and fits is due a known reply.
pub due_known : (app : App) (o : ℕ) (start : Start) (h : List Entry) (c : Call) → IsTrue (is_sound app) → start_of app o ≡ Some start → IsLegal start h → Each (KnownAt app o) h
    → IsCallAt app o c → ready start h c ≡ true → fits start h c ≡ true → IsReplyAt app o (due start h c)
due_known app o start h c sound there legal known call is_ready fit =
    let enough : held h + owed start h + need start h c ≤ MOST_UNITS = leb-true (held h + owed start h + need start h c) MOST_UNITS fit in
    is_due app o h known c call start there (length_within start h (start_sound app o start sound there) legal) legal is_ready (omega (arith, enough))
