-- The kinds of store: what the stores of each do, and its word in documents.
use Rattle.std.specs.Prelude.{ℕ, true, false, List, [], ◌∷◌, codes, find, Option, unwrap_or}
use Rattle.std.specs.Str.{bytes_eq}
use Rattle.anti_kind.specs.declared.store_kind.Facts.{Facts}
use Rattle.anti_kind.specs.declared.store_kind.StoreKind.{StoreKind}
use Rattle.anti_kind.specs.declared.store_kind.StoreKind.TheVariants.{Kv, Table, Blob, Queue, Topic, Cached}

-- nothing of all that a kind may do
abbrev nothing : Facts
nothing = record { keyed = false; scanned = false; polled = false; pulled = false; tried = false; ordered = false; parted = false; cached = false }

abbrev pub facts_of : StoreKind → Facts
facts_of Kv = record nothing { keyed = true }
facts_of Table = record nothing { keyed = true; scanned = true; ordered = true }
facts_of Blob = record nothing { keyed = true; parted = true }
facts_of Queue = record nothing { pulled = true; tried = true }
facts_of Topic = record nothing { polled = true; pulled = true }
facts_of Cached = record nothing { keyed = true; cached = true }

abbrev pub word_of : StoreKind → List ℕ
word_of Kv = codes "kv"
word_of Table = codes "table"
word_of Blob = codes "blob"
word_of Queue = codes "queue"
word_of Topic = codes "topic"
word_of Cached = codes "cached"

abbrev pub kinds : List StoreKind
kinds = Kv ∷ Table ∷ Blob ∷ Queue ∷ Topic ∷ Cached ∷ []

-- the kind that a word names, and `Kv` where it names none
abbrev pub kind_named : List ℕ → Option StoreKind
kind_named word = find (λ kind. bytes_eq word (word_of kind)) kinds

abbrev pub kind_of : List ℕ → StoreKind
kind_of word = unwrap_or (kind_named word) Kv
