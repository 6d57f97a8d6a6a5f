use Rattle.anti_baggage.specs.Texts.{lineage_text, lineage_text_one}
use Rattle.anti_baggage.proofs.TextLaws.{is_its_text, one_states_its_lineage, one_version, same_lineage, states_its_lineage}
use Rattle.anti_baggage.proofs.laws.texts_state_lineages.Goals as goal

pub returns-clause-again : goal.returns-clause-again
returns-clause-again c = states_its_lineage

pub returns-clause-again_one : goal.returns-clause-again_one
returns-clause-again_one c = one_states_its_lineage

pub returns-clause-only : goal.returns-clause-only
returns-clause-only c = is_its_text

pub returns-clause-one_lineage : goal.returns-clause-one_lineage
returns-clause-one_lineage c = λ stores ids others names over over_others. (
  same_lineage lineage_text states_its_lineage stores ids others names over over_others,
  same_lineage lineage_text_one one_states_its_lineage stores ids others names over over_others,
)

pub returns-clause-one_version : goal.returns-clause-one_version
returns-clause-one_version c = one_version
