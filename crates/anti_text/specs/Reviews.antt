-- What is said of the lines of an application, as text.
use Rattle.std.specs.Prelude.{ℕ, List, ◌++◌, length, codes, decimal}
use Rattle.std.specs.List.{flat_map}
use Rattle.anti_app.specs.declared.app.App.{App}
use Rattle.anti_place.specs.declared.remark.Finding.{Finding}
use Rattle.anti_place.specs.declared.remark.Finding.TheVariants.{Fails, Superfluous}
use Rattle.anti_place.specs.declared.remark.Remark.{Remark}
use Rattle.anti_text.specs.Placements.{place_of_line, reason_word}

abbrev pub finding_word : Finding → List ℕ
finding_word (Fails reason) = reason_word reason
finding_word Superfluous = codes "superfluous"

-- a line with what is found there, as `w two 6 unsettled`
abbrev pub remark_line : App → Remark → List ℕ
remark_line app r = place_of_line app r.service r.handler r.line ++ finding_word r.finding ++ codes "\n"

-- a line for each remark, and last how many there are
abbrev pub review_text : App → List Remark → List ℕ
review_text app remarks = codes "review 1\n" ++ flat_map (remark_line app) remarks ++ codes "end " ++ decimal (length remarks) ++ codes "\n"
