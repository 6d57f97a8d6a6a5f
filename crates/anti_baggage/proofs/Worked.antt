-- Texts of lineages, and what they state, by computation.
use Rattle.std.proofs.Common.{◌≡◌, ℕ, List, [], ◌∷◌, refl}
use Rattle.std.specs.Prelude.{codes, Ok, Err}
use Rattle.std.specs.Fmt.{digits}
use Rattle.percent_encoding.specs.Percent.{percent_decode, percent_encode_byte}
use Rattle.anti_ids.specs.declared.id.WriteId.{WriteId}
use Rattle.anti_baggage.specs.declared.fault.BaggageFault.TheVariants.{BadHead, BadId, UnknownStore, NotAscending}
use Rattle.anti_baggage.specs.Texts.{lineage_text, lineage_text_one}
use Rattle.anti_baggage.specs.Reading.{read_lineage}

stores : List (List ℕ)
stores = codes "posts" ∷ codes "notes" ∷ []

post : WriteId
post = record { store = 0; key = codes "p1"; version = 1 }

note : WriteId
note = record { store = 1; key = codes "n#1"; version = 7 }

none : lineage_text (codes "posts" ∷ codes "notes" ∷ []) [] ≡ codes "2;"
none = refl

none_one : lineage_text_one (codes "posts" ∷ codes "notes" ∷ []) [] ≡ codes "1;"
none_one = refl

two_one : lineage_text_one (codes "posts" ∷ codes "notes" ∷ []) (record { store = 0; key = codes "p1"; version = 1 } ∷ record { store = 1; key = codes "n#1"; version = 7 } ∷ []) ≡ codes "1;posts/p1@1,notes/n%231@7"
unfolding digits percent_encode_byte
two_one = refl

-- each store stands once
groups : lineage_text (codes "posts" ∷ codes "notes" ∷ [])
    (record { store = 0; key = codes "p1"; version = 1 } ∷ record { store = 0; key = codes "p2"; version = 3 } ∷ record { store = 1; key = codes "n#1"; version = 7 } ∷ [])
    ≡ codes "2;posts/p1@1,p2@3|notes/n%231@7"
unfolding digits percent_encode_byte
groups = refl

none_read : read_lineage (codes "posts" ∷ codes "notes" ∷ []) (codes "1;") ≡ Ok []
none_read = refl

two_read : read_lineage (codes "posts" ∷ codes "notes" ∷ []) (codes "1;posts/p1@1,notes/n%231@7")
    ≡ Ok (record { store = 0; key = codes "p1"; version = 1 } ∷ record { store = 1; key = codes "n#1"; version = 7 } ∷ [])
unfolding digits percent_encode_byte percent_decode
two_read = refl

groups_read : read_lineage (codes "posts" ∷ codes "notes" ∷ []) (codes "2;posts/p1@1,p2@3|notes/n%231@7")
    ≡ Ok (record { store = 0; key = codes "p1"; version = 1 } ∷ record { store = 0; key = codes "p2"; version = 3 } ∷ record { store = 1; key = codes "n#1"; version = 7 } ∷ [])
unfolding digits percent_encode_byte percent_decode
groups_read = refl

no_groups_read : read_lineage (codes "posts" ∷ codes "notes" ∷ []) (codes "2;") ≡ Ok []
no_groups_read = refl

head : read_lineage (codes "posts" ∷ []) (codes "3;") ≡ Err BadHead
head = refl

-- a store twice, stores that fall, an empty group, a store before a later id, and a store that is not there
store_twice : read_lineage (codes "posts" ∷ codes "notes" ∷ []) (codes "2;posts/p1@1|posts/p2@3") ≡ Err (NotAscending 2)
unfolding digits percent_encode_byte percent_decode
store_twice = refl

stores_fall : read_lineage (codes "posts" ∷ codes "notes" ∷ []) (codes "2;notes/a@1|posts/a@1") ≡ Err (NotAscending 2)
unfolding digits percent_encode_byte percent_decode
stores_fall = refl

empty_group : read_lineage (codes "posts" ∷ codes "notes" ∷ []) (codes "2;posts/p1@1|") ≡ Err (BadId 2)
unfolding digits percent_encode_byte percent_decode
empty_group = refl

store_before_later : read_lineage (codes "posts" ∷ codes "notes" ∷ []) (codes "2;posts/p1@1,posts/p2@3") ≡ Err (BadId 2)
unfolding digits percent_encode_byte percent_decode
store_before_later = refl

unknown_group : read_lineage (codes "posts" ∷ codes "notes" ∷ []) (codes "2;blogs/a@1") ≡ Err (UnknownStore 1)
unfolding digits percent_encode_byte percent_decode
unknown_group = refl

lower : read_lineage (codes "posts" ∷ []) (codes "1;posts/a%2d@1") ≡ Err (BadId 1)
unfolding digits percent_encode_byte percent_decode
lower = refl

zero_version : read_lineage (codes "posts" ∷ []) (codes "1;posts/a@0") ≡ Err (BadId 1)
unfolding digits percent_encode_byte percent_decode
zero_version = refl

leading : read_lineage (codes "posts" ∷ []) (codes "1;posts/a@01") ≡ Err (BadId 1)
unfolding digits percent_encode_byte percent_decode
leading = refl

last_empty : read_lineage (codes "posts" ∷ []) (codes "1;posts/a@1,") ≡ Err (BadId 2)
unfolding digits percent_encode_byte percent_decode
last_empty = refl

unknown : read_lineage (codes "posts" ∷ []) (codes "1;blogs/a@1") ≡ Err (UnknownStore 1)
unfolding digits percent_encode_byte percent_decode
unknown = refl

order : read_lineage (codes "posts" ∷ []) (codes "1;posts/a@2,posts/a@1") ≡ Err (NotAscending 2)
unfolding digits percent_encode_byte percent_decode
order = refl
