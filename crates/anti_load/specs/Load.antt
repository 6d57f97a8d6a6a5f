-- The application of a load: a poster writes posts and notes, the notes start a reader elsewhere, and there are so many requests,
-- whose values a generator draws.
use Rattle.std.specs.Prelude.{ℕ, ◌%◌, List, [], ◌∷◌, ◌++◌, map, codes, decimal}
use Rattle.rand_core.specs.Steps.{first_words}
use Rattle.rand_pcg.specs.Lcg.{Lcg, increment_of, started}
use Rattle.rand_pcg.specs.Pcg.{multiplier_64, pcg32}
use Rattle.anti_ids.specs.List.{Listed, plain}
use Rattle.anti_kind.specs.declared.store_kind.StoreKind.TheVariants.{Kv, Queue}
use Rattle.anti_lang.specs.declared.statement.Statement.{Statement}
use Rattle.anti_app.specs.declared.app.App.{App}
use Rattle.anti_app.specs.declared.app.StoreDef.{StoreDef}
use Rattle.anti_app.specs.declared.app.ServiceDef.{ServiceDef}
use Rattle.anti_app.specs.declared.app.SubDef.{SubDef}
use Rattle.anti_app.specs.declared.app.RequestDef.{RequestDef}
use Rattle.anti_app.specs.declared.app.Choice.TheVariants.{Finish}
use Rattle.anti_app.specs.Parts.{body_in}

-- ---- stores, services and the subscription

abbrev pub posts : StoreDef
posts = record { name = codes "posts"; kind = Kv; replicas = plain (0 ∷ 1 ∷ []); tries = 3; room = 8 }

abbrev pub notes : StoreDef
notes = record { name = codes "notes"; kind = Queue; replicas = plain (1 ∷ []); tries = 3; room = 8 }

-- the poster's handler: it reads the post of the key that it is given, writes the next one, and a note of it
abbrev pub post_lines : List (List ℕ)
post_lines =
    codes "read posts $in as x" ∷ codes "transfer x" ∷ codes "write posts $in v" ∷ codes "write notes n $in" ∷ []

-- the reader's handler: it waits for what the note depends on, and reads the post
abbrev pub note_lines : List (List ℕ)
note_lines = codes "barrier" ∷ codes "read posts $in as y" ∷ []

-- a service with one handler
abbrev pub service : List ℕ → ℕ → List ℕ → Listed Statement → ServiceDef
service name region handler body =
    record { name = name; region = region; handlers = plain (record { name = handler; body = body } ∷ []) }

abbrev pub poster : ServiceDef
poster = service (codes "poster") 0 (codes "post") (body_in post_lines)

abbrev pub reader : ServiceDef
reader = service (codes "reader") 1 (codes "note") (body_in note_lines)

-- the notes start the reader
abbrev pub fans : SubDef
fans = record { name = codes "fans"; store = 1; channel = codes "n"; service = 1; handler = 0 }

-- ---- requests

-- the generator of a load
abbrev pub generator : ℕ → Lcg
generator n = started 64 multiplier_64 n (increment_of 64 54)

-- one of 50 keys for a word of it, as `k33`
abbrev pub key_of : ℕ → List ℕ
key_of word = codes "k" ++ decimal (word % 50)

-- the poster is given the key
abbrev pub request_of : ℕ → RequestDef
request_of word = record { service = 0; handler = 0; value = key_of word }

-- ---- the whole

unfoldable pub load_application : ℕ → App
load_application n = record {
  regions = plain (codes "us" ∷ codes "eu" ∷ []);
  stores = plain (posts ∷ notes ∷ []);
  services = plain (poster ∷ reader ∷ []);
  subs = plain (fans ∷ []);
  requests = plain (map request_of (first_words pcg32 n (generator n)));
  choices = plain (Finish ∷ []);
  seed = 0;
  workers = 2;
}
