-- The application of a load is sound.
use Rattle.std.proofs.Common.{◌≡◌, ℕ, ◌≤◌, codes, List, [], ◌∷◌, true, nat_le, length, map, Result, Ok, Err, IsTrue, IfOk, refl, ap, ◌∙◌}
use Rattle.std.specs.List.{list_all}
use Rattle.std.specs.Result.{result_unwrap_or}
use Rattle.std.proofs.lemmas.Bool.{and_from, le-leb}
use Rattle.std.proofs.lemmas.List.{length-map}
use Rattle.rand_core.specs.Steps.{first_words}
use Rattle.rand_pcg.specs.Pcg.{pcg32}
use Rattle.anti_ids.specs.Names.{is_plain}
use Rattle.anti_ids.specs.declared.limits.TheConstants.{MOST_REQUESTS}
use Rattle.anti_ids.specs.declared.memory.NoMemory.{NoMemory}
use Rattle.anti_lang.specs.Program.{Block, End}
use Rattle.anti_lang.specs.Bodies.{block_of, body_of}
use Rattle.anti_lang.specs.Faults.{block_fault, variable_fault}
use Rattle.anti_lang.specs.Parsing.{parsed}
use Rattle.anti_lang.specs.declared.fault.LangFault.{LangFault}
use Rattle.anti_lang.proofs.PlainLemmas.{block_again}
use Rattle.anti_app.specs.declared.app.App.{App}
use Rattle.anti_app.specs.declared.app.ServiceDef.{ServiceDef}
use Rattle.anti_app.specs.declared.app.StoreDef.{StoreDef}
use Rattle.anti_app.specs.Sound.{is_sound_store, serves, fits_stores, fits_services, is_sound_body, is_sound_handler, is_sound_service, hands_out, is_sound_sub, is_sound_request, is_sound_choice, are_sound_regions, are_sound_stores, are_sound_services, are_sound_subs, are_sound_requests, are_sound_choices, are_sound_numbers, is_sound}
use Rattle.anti_load.specs.Load.{posts, notes, post_lines, note_lines, poster, reader, fans, generator, request_of, load_application}
use Rattle.anti_load.proofs.Bodies.{post_block, post_stated, note_block, note_stated}
use Rattle.anti_load.proofs.Keys.{key_is_short}
use Rattle.anti_load.proofs.Drawn.{requests_of, as_many_words}

abbrev stores : List StoreDef
stores = posts ∷ notes ∷ []

abbrev services : List ServiceDef
services = poster ∷ reader ∷ []

-- ---- the handlers
-- a handler whose lines state a sound body is sound
handler_sound : (region : ℕ) (name : List ℕ) (stated : Result Block LangFault) (block : Block) → is_plain name ≡ true → stated ≡ Ok block
    → is_sound_body stores services region block ≡ true
    → is_sound_handler stores services region (record { name = name; body = body_of (result_unwrap_or stated End) }) ≡ true
unfolding is_sound_handler
handler_sound region name stated block named is sound =
    let read : body_of (result_unwrap_or stated End) ≡ body_of block = ap (λ (read : Result Block LangFault). body_of (result_unwrap_or read End)) is in
    let body : block_of (body_of (result_unwrap_or stated End)) ≡ block = ap block_of read ∙ block_again block in
    and_from _ _ named (ap (is_sound_body stores services region) body ∙ sound)

post_sound : is_sound_body stores services 0 post_block ≡ true
unfolding is_sound_body serves fits_stores fits_services block_fault variable_fault
post_sound = refl

note_sound : is_sound_body stores services 1 note_block ≡ true
unfolding is_sound_body serves fits_stores fits_services block_fault variable_fault
note_sound = refl

-- ---- the fixed parts
stores_sound : are_sound_stores 2 stores ≡ true
unfolding is_sound_store
stores_sound = refl

poster_sound : is_sound_service 2 stores services poster ≡ true
unfolding is_sound_service
poster_sound =
    let handler = handler_sound 0 (codes "post") (parsed post_lines) post_block refl post_stated post_sound in
    and_from _ _ (and_from _ _ handler refl) refl

reader_sound : is_sound_service 2 stores services reader ≡ true
unfolding is_sound_service
reader_sound =
    let handler = handler_sound 1 (codes "note") (parsed note_lines) note_block refl note_stated note_sound in
    and_from _ _ (and_from _ _ handler refl) refl

services_sound : are_sound_services 2 stores services ≡ true
services_sound = and_from _ _ (and_from _ _ poster_sound (and_from _ _ reader_sound refl)) refl

subs_sound : are_sound_subs stores services (fans ∷ []) ≡ true
unfolding is_sound_sub hands_out
subs_sound = refl

-- ---- the requests
request_sound : (word : ℕ) → is_sound_request services (request_of word) ≡ true
unfolding is_sound_request
request_sound word = key_is_short word

each_sound : (words : List ℕ) → list_all (is_sound_request services) (map request_of words) ≡ true
each_sound [] = refl
each_sound (word ∷ words) = and_from _ _ (request_sound word) (each_sound words)

requests_sound : (n : ℕ) → n ≤ MOST_REQUESTS → are_sound_requests services (requests_of n (generator n)) ≡ true
requests_sound n few =
    let words = first_words pcg32 n (generator n) in
    let count : length (requests_of n (generator n)) ≡ n = length-map words request_of ∙ as_many_words n (generator n) in
    and_from _ _ (ap (λ (m : ℕ). nat_le m MOST_REQUESTS) count ∙ le-leb n MOST_REQUESTS few) (each_sound words)

-- ---- the whole
sound_from : (app : App) → are_sound_regions app.regions.items ≡ true
    → are_sound_stores (length app.regions.items) app.stores.items ≡ true
    → are_sound_services (length app.regions.items) app.stores.items app.services.items ≡ true
    → are_sound_subs app.stores.items app.services.items app.subs.items ≡ true
    → are_sound_requests app.services.items app.requests.items ≡ true
    → are_sound_choices app app.choices.items ≡ true → are_sound_numbers app ≡ true → is_sound app ≡ true
sound_from app regions stores services subs requests choices numbers =
    and_from _ _ regions
    (and_from _ _ stores (and_from _ _ services (and_from _ _ subs (and_from _ _ requests (and_from _ _ choices numbers)))))

load_sound : (n : ℕ) → n ≤ MOST_REQUESTS → is_sound (load_application n) ≡ true
unfolding load_application is_sound_choice
load_sound n few = sound_from (load_application n) refl stores_sound services_sound subs_sound (requests_sound n few) refl refl

-- what is made for so many requests is sound
pub made_sound : (n : ℕ) → n ≤ MOST_REQUESTS → (result : Result App NoMemory) → IfOk result (λ app. app ≡ load_application n)
    → IfOk result (λ app. IsTrue (is_sound app))
made_sound n few (Ok app) made = ap is_sound made ∙ load_sound n few
made_sound n few (Err fault) made = tt
