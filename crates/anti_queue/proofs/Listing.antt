-- The messages that are free for a subscription after one entry more.
use Rattle.std.proofs.Common.{◌≡◌, ℕ, suc, ◌+◌, ◌-◌, ◌<◌, ◌≤◌, Bool, true, false, not, cond, ◌&&◌, List, [], ◌∷◌, ◌++◌, length, map, filter, get_or, take, drop, count_by, Option, Some, None, All, slice_get, find, refl, sym, ap, subst, ◌∙◌, inl, ltb, append-nil, arith, option_and_then}
use Rattle.std.specs.Prelude.{Contains}
use Rattle.std.specs.VecDeque.{deque_capacity}
use Rattle.std.proofs.lemmas.List.{map-append, length-map, length-take-le, length-drop, take-append-drop, drop_more, get_or-take, get_or-drop}
use Rattle.std.specs.Option.{option_map}
use Rattle.std.proofs.lemmas.Option.{slice_get-map, slice_get_within, get_or_from_slice_get}
use Rattle.std.proofs.lemmas.List.Elements.{filter-append, filter_agree, All-filter, All-map}
use Rattle.std.proofs.lemmas.List.Sums.{length-filter, sum_by-cons}
use Rattle.anti_kind.specs.Kinds.{facts_of}
use Rattle.anti_kind.specs.declared.entry.Entry.{Entry}
use Rattle.anti_kind.specs.declared.row.Row.{Row}
use Rattle.anti_kind.specs.declared.store_kind.Sub.{Sub}
use Rattle.anti_kind.specs.declared.store_kind.StoreKind.{StoreKind}
use Rattle.anti_kind.specs.declared.store_kind.StoreKind.TheVariants.{Queue}
use Rattle.anti_kind.specs.Stored.{rows, row_of, is_shipped, is_whole, is_in}
use Rattle.anti_kind.specs.Store.{Store, pulls, is_acked, is_out, is_free, next_of, next}
use Rattle.anti_kind.specs.Starts.{queue_store}
use Rattle.anti_kind.specs.Cells.{is_row_in}
use Rattle.anti_kind.specs.Objects.{store, IsLegal}
use Rattle.anti_kind.proofs.Finding.{filter_contains}
use Rattle.anti_kind.proofs.Rows.{version_at, row_of_at, row_of_none, row_in}
use Rattle.anti_replicas.proofs.Places.{and_false}
use Rattle.anti_queue.specs.declared.subscribers.Subscriber.{Subscriber}
use Rattle.anti_queue.specs.declared.subscribers.Subscribers.{Subscribers}
use Rattle.anti_queue.specs.inner.Splits.{with_if, SetsVersion}
use Rattle.anti_queue.specs.inner.Marks.{can_go_out}
use Rattle.anti_queue.specs.inner.Lists.{subs_of, free_versions, HasFree, HaveFree, HasMoreRoom, HasSpare, is_free_to, IsSorted}
use Rattle.anti_queue.proofs.Marking.{SameMarks}

-- The versions of the rows that pass a test.

abbrev versions : (Row → Bool) → List Row → List ℕ
versions test rs = map (λ r. r.version) (filter test rs)

filter_same : (p q : Row → Bool) (rs : List Row) → ((i : ℕ) (d : Row) → i < length rs → p (get_or rs i d) ≡ q (get_or rs i d)) → filter p rs ≡ filter q rs
filter_same p q [] same = refl
filter_same p q (r ∷ rs) same =
    let first : p r ≡ q r = same 0 r (omega arith) in
    let rest : filter p rs ≡ filter q rs = filter_same p q rs (λ i d short. same (suc i) d (omega arith)) in
    ap (λ (b : Bool). cond b (r ∷ filter p rs) (filter p rs)) first ∙ ap (λ (xs : List Row). cond (q r) (r ∷ xs) xs) rest

versions-append : (test : Row → Bool) (rs ss : List Row) → versions test (rs ++ ss) ≡ versions test rs ++ versions test ss
versions-append test rs ss = ap (map (λ (r : Row). r.version)) (filter-append test rs ss) ∙ map-append (λ (r : Row). r.version) (filter test rs) (filter test ss)

versions-cons : (test : Row → Bool) (r : Row) (rs : List Row) → versions test (r ∷ rs) ≡ with_if (test r) r.version (versions test rs)
versions-cons test r rs = by_test (test r) where
  by_test : (b : Bool) → map (λ (x : Row). x.version) (cond b (r ∷ filter test rs) (filter test rs)) ≡ with_if b r.version (versions test rs)
  by_test true = refl
  by_test false = refl

-- parted at one row
module _ (rs : List Row) (numbered : (i : ℕ) (d : Row) → i < length rs → (get_or rs i d).version ≡ i + 1) (v : ℕ) (first : 1 ≤ v) (within : v ≤ length rs) where
  place : v - 1 < length rs
  place = omega arith

  parted : (test : Row → Bool) (d : Row) → versions test rs ≡ versions test (take (v - 1) rs) ++ with_if (test (get_or rs (v - 1) d)) v (versions test (drop v rs))
  parted test d =
      let next : v - 1 + 1 ≡ v = omega arith in
      let number : (get_or rs (v - 1) d).version ≡ v = numbered (v - 1) d place ∙ next in
      let rest : drop (v - 1) rs ≡ get_or rs (v - 1) d ∷ drop v rs = drop_more rs (v - 1) d place ∙ ap (λ (n : ℕ). get_or rs (v - 1) d ∷ drop n rs) next in
      ap (versions test) (sym (take-append-drop (v - 1) rs))
      ∙ versions-append test (take (v - 1) rs) (drop (v - 1) rs)
      ∙ ap (λ (xs : List Row). versions test (take (v - 1) rs) ++ versions test xs) rest
      ∙ ap (λ (xs : List ℕ). versions test (take (v - 1) rs) ++ xs) (versions-cons test (get_or rs (v - 1) d) (drop v rs))
      ∙ ap (λ (n : ℕ). versions test (take (v - 1) rs) ++ with_if (test (get_or rs (v - 1) d)) n (versions test (drop v rs))) number

  lower : (test : Row → Bool) → All (λ w. w < v) (versions test (take (v - 1) rs))
  lower test =
      All-map (λ w. w < v) (λ (r : Row). r.version) (filter test (take (v - 1) rs))
      (All-filter test (λ r. r.version < v) (take (v - 1) rs) (λ i d short.
      let few : i < v - 1 = omega (arith, length-take-le (v - 1) rs (omega arith)) in
      omega (arith, ap (λ (r : Row). r.version) (get_or-take (v - 1) rs i d few), numbered i d (omega arith))))

  higher : (test : Row → Bool) → All (λ w. v < w) (versions test (drop v rs))
  higher test =
      All-map (λ w. v < w) (λ (r : Row). r.version) (filter test (drop v rs))
      (All-filter test (λ r. v < r.version) (drop v rs) (λ i d short.
      omega (arith, ap (λ (r : Row). r.version) (get_or-drop v rs i d), numbered (v + i) d (omega (arith, length-drop v rs)))))

  -- two tests that agree but for that row
  module _ (p q : Row → Bool) (same : (r : Row) → (v ≡ r.version → ⊥) → q r ≡ p r) where
    before_same : versions q (take (v - 1) rs) ≡ versions p (take (v - 1) rs)
    before_same =
        ap (map (λ (r : Row). r.version)) (filter_same q p (take (v - 1) rs) (λ i d short.
        let few : i < v - 1 = omega (arith, length-take-le (v - 1) rs (omega arith)) in
        same (get_or (take (v - 1) rs) i d) (λ eq. omega (arith, eq, ap (λ (r : Row). r.version) (get_or-take (v - 1) rs i d few), numbered i d (omega arith)))))

    after_same : versions q (drop v rs) ≡ versions p (drop v rs)
    after_same =
        ap (map (λ (r : Row). r.version)) (filter_same q p (drop v rs) (λ i d short.
        same (get_or (drop v rs) i d) (λ eq. omega (arith, eq, ap (λ (r : Row). r.version) (get_or-drop v rs i d), numbered (v + i) d (omega (arith, length-drop v rs))))))

    -- so a list of those that pass p becomes one of those that pass q
    sorted : (xs ys : List ℕ) (wanted : Bool) (d : Row) → xs ≡ versions p rs → SetsVersion xs v wanted ys → wanted ≡ q (get_or rs (v - 1) d) → ys ≡ versions q rs
    sorted xs ys wanted d were sets is =
        sets (p (get_or rs (v - 1) d)) (versions p (take (v - 1) rs)) (versions p (drop v rs)) (record { parts = were ∙ parted p d; lower = lower p; higher = higher p })
        ∙ ap (λ (zs : List ℕ). zs ++ with_if wanted v (versions p (drop v rs))) (sym before_same)
        ∙ ap (λ (zs : List ℕ). versions q (take (v - 1) rs) ++ with_if wanted v zs) (sym after_same)
        ∙ ap (λ (b : Bool). versions q (take (v - 1) rs) ++ with_if b v (versions q (drop v rs))) is
        ∙ sym (parted q d)

-- fewer rows pass two tests than the first
fewer_by : (a b : Bool) → cond {A = ℕ} (a && b) 1 0 ≤ cond {A = ℕ} a 1 0
fewer_by true true = omega arith
fewer_by true false = omega arith
fewer_by false b = omega arith

fewer : (p q : Row → Bool) (rs : List Row) → count_by (λ r. p r && q r) rs ≤ count_by p rs
fewer p q [] = omega arith
fewer p q (r ∷ rs) =
    let rest : count_by (λ x. p x && q x) rs ≤ count_by p rs = fewer p q rs in
    let both : count_by (λ x. p x && q x) (r ∷ rs) ≡ cond (p r && q r) 1 0 + count_by (λ x. p x && q x) rs = sum_by-cons (λ (x : Row). cond {A = ℕ} (p x && q x) 1 0) r rs in
    let one : count_by p (r ∷ rs) ≡ cond (p r) 1 0 + count_by p rs = sum_by-cons (λ (x : Row). cond {A = ℕ} (p x) 1 0) r rs in
    omega (arith, fewer_by (p r) (q r))

-- What is free.

module _ (number : ℕ) (regions : List ℕ) (subs : List Sub) (tries : ℕ) where
  abbrev s : Store
  s = queue_store number regions subs tries

  -- a row whose marks stay, and which was shipped as before
  pub free_same : (h k : List Entry) (sub : Sub) (r : Row) → SameMarks h k r.version → is_shipped k sub.region r.version 1 ≡ is_shipped h sub.region r.version 1 → is_free s k sub r ≡ is_free s h sub r
  free_same h k sub r same shipped =
      ap (λ (b : Bool). is_in sub.channel r && ((b && true) && (not (is_out k r.version) && (not (is_acked k r.version) && ltb (pulls k r.version) tries)))) shipped
      ∙ ap (λ (b : Bool). is_in sub.channel r && ((is_shipped h sub.region r.version 1 && true) && (not b && (not (is_acked k r.version) && ltb (pulls k r.version) tries)))) same.out
      ∙ ap (λ (b : Bool). is_in sub.channel r && ((is_shipped h sub.region r.version 1 && true) && (not (is_out h r.version) && (not b && ltb (pulls k r.version) tries)))) same.acked
      ∙ ap (λ (n : ℕ). is_in sub.channel r && ((is_shipped h sub.region r.version 1 && true) && (not (is_out h r.version) && (not (is_acked h r.version) && ltb n tries)))) same.pulls_are

  -- what the tests of the code say together
  free_is : (h : List Entry) (sub : Sub) (v : ℕ) (r : Row) → row_of h v ≡ Some r → r.version ≡ v → is_free_to h v (can_go_out h v tries) sub ≡ is_free s h sub r
  free_is h sub v r row version =
      ap (λ (o : Option Row). can_go_out h v tries && (is_row_in sub.channel o && is_shipped h sub.region v 1)) row
      ∙ ap (λ (n : ℕ). can_go_out h n tries && (is_in sub.channel r && is_shipped h sub.region n 1)) (sym version)
      ∙ in_turn (can_go_out h r.version tries) (is_in sub.channel r) (is_shipped h sub.region r.version 1)
    where
      in_turn : (can here came : Bool) → (can && (here && came)) ≡ (here && ((came && true) && can))
      in_turn true true true = refl
      in_turn true true false = refl
      in_turn true false came = refl
      in_turn false true true = refl
      in_turn false true false = refl
      in_turn false false came = refl

  -- a message that is out, or done, is free for none
  pub unfree_out : (h : List Entry) (sub : Sub) (r : Row) → is_out h r.version ≡ true → is_free s h sub r ≡ false
  unfree_out h sub r out =
      ap (λ (b : Bool). is_in sub.channel r && (is_whole s.kind h sub.region r && (not b && (not (is_acked h r.version) && ltb (pulls h r.version) tries)))) out
      ∙ ap (λ (b : Bool). is_in sub.channel r && b) (and_false (is_whole s.kind h sub.region r))
      ∙ and_false (is_in sub.channel r)

  pub unfree_acked : (h : List Entry) (sub : Sub) (r : Row) → is_acked h r.version ≡ true → is_free s h sub r ≡ false
  unfree_acked h sub r acked =
      ap (λ (b : Bool). is_in sub.channel r && (is_whole s.kind h sub.region r && (not (is_out h r.version) && (not b && ltb (pulls h r.version) tries)))) acked
      ∙ ap (λ (b : Bool). is_in sub.channel r && (is_whole s.kind h sub.region r && b)) (and_false (not (is_out h r.version)))
      ∙ ap (λ (b : Bool). is_in sub.channel r && b) (and_false (is_whole s.kind h sub.region r))
      ∙ and_false (is_in sub.channel r)

  -- how many are free
  free_few : (h : List Entry) (sub : Sub) → length (free_versions s h sub) ≤ count_by (is_in sub.channel) (rows h)
  free_few h sub = omega (arith, length-map (filter (is_free s h sub) (rows h)) (λ (r : Row). r.version), length-filter (is_free s h sub) (rows h), fewer (is_in sub.channel) (λ r. is_whole s.kind h sub.region r && (not (is_out h r.version) && (not (is_acked h r.version) && ltb (pulls h r.version) tries))) (rows h))

  pub has_spare : (h : List Entry) (x : Subscriber) → HasFree s h x → HasSpare x
  has_spare h x has = omega (arith, has.room, x.free.versions.ok.0, ap length has.items, free_few h x.sub)

  -- more room
  pub with_more_room : (h : List Entry) (x y : Subscriber) → HasMoreRoom x y → HasFree s h x → HasFree s h y
  with_more_room h x y more has = record {
    items = more.items ∙ has.items ∙ ap (free_versions s h) (sym more.sub);
    room = let same : count_by (is_in y.sub.channel) (rows h) ≡ count_by (is_in x.sub.channel) (rows h) = ap (λ (sub : Sub). count_by (is_in sub.channel) (rows h)) more.sub in omega (arith, has.room, more.capacity);
  }

  -- a call after which the same is free
  pub free_kept : (h k : List Entry) (x : Subscriber) → rows k ≡ rows h → ((r : Row) → is_free s k x.sub r ≡ is_free s h x.sub r) → HasFree s h x → HasFree s k x
  free_kept h k x same_rows same has = record {
    items = has.items ∙ ap (map (λ (r : Row). r.version)) (filter_agree (is_free s h x.sub) (is_free s k x.sub) (λ r. sym (same r)) (rows h)) ∙ ap (versions (is_free s k x.sub)) (sym same_rows);
    room = subst (λ (n : ℕ). n < deque_capacity x.free.versions) (ap (count_by (is_in x.sub.channel)) (sym same_rows)) has.room;
  }

  -- a call that changes what is free by one message, which is sorted in
  pub free_sorted : (h k : List Entry) (v : ℕ) (x y : Subscriber) → IsLegal (store s) k → rows k ≡ rows h → 1 ≤ v → v ≤ length (rows h)
      → ((w : ℕ) → (v ≡ w → ⊥) → SameMarks h k w) → ((g w : ℕ) → (v ≡ w → ⊥) → is_shipped k g w 1 ≡ is_shipped h g w 1) → IsSorted k v (can_go_out k v tries) x y → HasFree s h x → HasFree s k y
  free_sorted h k v x y legal same_rows first within same shipped is has =
      let short : v - 1 < length (rows h) = omega arith in
      let in_k : v - 1 < length (rows k) = omega (arith, ap length same_rows) in
      let next : v ≡ v - 1 + 1 = omega arith in
      let numbered : (i : ℕ) (d : Row) → i < length (rows h) → (get_or (rows h) i d).version ≡ i + 1 =
      subst (λ (rs : List Row). (i : ℕ) (d : Row) → i < length rs → (get_or rs i d).version ≡ i + 1) same_rows (λ i d lower. version_at s k legal i d lower) in
      let r : Row = get_or (rows h) (v - 1) nothing in
      let version : r.version ≡ v = numbered (v - 1) nothing short ∙ sym next in
      let row : row_of k v ≡ Some r = row_of_at s k legal v (v - 1) nothing next in_k ∙ ap (λ (rs : List Row). Some (get_or rs (v - 1) nothing)) same_rows in
      record {
        items =
            sorted (rows h) numbered v first within (is_free s h x.sub) (is_free s k x.sub)
            (λ z differs. free_same h k x.sub z (same z.version differs) (shipped x.sub.region z.version differs))
            x.free.versions.items y.free.versions.items
            (is_free_to k v (can_go_out k v tries) x.sub) nothing has.items is.items (free_is k x.sub v r row version)
            ∙ ap (versions (is_free s k x.sub)) (sym same_rows)
            ∙ ap (free_versions s k) (sym is.sub);
        room =
            let same_count : count_by (is_in y.sub.channel) (rows k) ≡ count_by (is_in x.sub.channel) (rows h) =
            ap (λ (sub : Sub). count_by (is_in sub.channel) (rows k)) is.sub ∙ ap (count_by (is_in x.sub.channel)) same_rows in
            omega (arith, has.room, is.capacity);
      }
    where
      nothing : Row
      nothing = record { key = []; version = 0; value = []; lineage = [] }

  -- a write, which is free for none
  pub free_written : (h k : List Entry) (r : Row) (x : Subscriber) → rows k ≡ rows h ++ r ∷ [] → ((v : ℕ) → SameMarks h k v) → ((g v : ℕ) → is_shipped k g v 1 ≡ is_shipped h g v 1) → ((g : ℕ) → is_shipped k g r.version 1 ≡ false)
      → count_by (is_in x.sub.channel) (rows k) < deque_capacity x.free.versions → HasFree s h x → HasFree s k x
  free_written h k r x more_rows same shipped never room has = record {
    items =
        has.items
        ∙ ap (map (λ (z : Row). z.version)) (filter_agree (is_free s h x.sub) (is_free s k x.sub) (λ z. sym (free_same h k x.sub z (same z.version) (shipped x.sub.region z.version))) (rows h))
        ∙ sym (append-nil (versions (is_free s k x.sub) (rows h)))
        ∙ ap (λ (ws : List ℕ). versions (is_free s k x.sub) (rows h) ++ ws) (sym (versions-cons (is_free s k x.sub) r [] ∙ ap (λ (b : Bool). with_if b r.version []) unfree))
        ∙ sym (versions-append (is_free s k x.sub) (rows h) (r ∷ []))
        ∙ ap (versions (is_free s k x.sub)) (sym more_rows);
    room = room;
  }
    where
      unfree : is_free s k x.sub r ≡ false
      unfree =
          ap (λ (b : Bool). is_in x.sub.channel r && ((b && true) && (not (is_out k r.version) && (not (is_acked k r.version) && ltb (pulls k r.version) tries)))) (never x.sub.region)
          ∙ and_false (is_in x.sub.channel r)

-- What a subscription pulls next is the first that is free.

first_by : (r : Row) (found : Option Row) (rest : List Row) → found ≡ slice_get rest 0 → (b : Bool) → cond b (Some r) found ≡ slice_get (cond b (r ∷ rest) rest) 0
first_by r found rest is true = refl
first_by r found rest is false = is

found_first : (test : Row → Bool) (rs : List Row) → find test rs ≡ slice_get (filter test rs) 0
found_first test [] = refl
found_first test (r ∷ rs) = first_by r (find test rs) (filter test rs) (found_first test rs) (test r)

module _ (s : Store) (h : List Entry) (l : IsLegal (store s) h) where
  next_free : (test : Row → Bool) → find test (rows h) ≡ row_of h (get_or (versions test (rows h)) 0 0)
  next_free test = found_first test (rows h) ∙ by_list (filter test (rows h)) refl where
    by_list : (rs : List Row) → filter test (rows h) ≡ rs → slice_get rs 0 ≡ row_of h (get_or (map (λ r. r.version) rs) 0 0)
    by_list [] is = sym (row_of_none s h l 0 (inl refl))
    by_list (r ∷ rs) is =
        let in' : Contains (filter test (rows h)) r = subst (λ (xs : List Row). Contains xs r) (sym is) (0, omega arith, refl) in
        sym (row_in s h l r ((filter_contains test (rows h) r).0 in').0)

  module _ (m : Subscribers) (kind : s.kind ≡ Queue) (subs : s.subs ≡ subs_of m) (n : ℕ) where
    sub_is : (o : Option Subscriber) → slice_get m.list.items n ≡ o → slice_get s.subs n ≡ option_map (λ (x : Subscriber). x.sub) o
    sub_is o is = ap (λ (xs : List Sub). slice_get xs n) subs ∙ slice_get-map (λ (x : Subscriber). x.sub) m.list.items n ∙ ap (option_map (λ (x : Subscriber). x.sub)) is

    pub next_is : HaveFree s h m.list.items → (x : Subscriber) → slice_get m.list.items n ≡ Some x → next s h n ≡ row_of h (get_or x.free.versions.items 0 0)
    next_is free x is =
        let has : HasFree s h x = subst (HasFree s h) (get_or_from_slice_get m.list.items n x x is) (free n x (slice_get_within m.list.items n x is)) in
        ap (option_and_then (next_of (facts_of s.kind).tried (facts_of s.kind).polled s h n)) (sub_is (Some x) is)
        ∙ ap (λ (k : StoreKind). next_of (facts_of k).tried (facts_of k).polled s h n x.sub) kind
        ∙ next_free (is_free s h x.sub)
        ∙ ap (λ (vs : List ℕ). row_of h (get_or vs 0 0)) (sym has.items)

    pub next_none : slice_get m.list.items n ≡ None → next s h n ≡ row_of h 0
    next_none is = ap (option_and_then (next_of (facts_of s.kind).tried (facts_of s.kind).polled s h n)) (sub_is None is) ∙ sym (row_of_none s h l 0 (inl refl))
