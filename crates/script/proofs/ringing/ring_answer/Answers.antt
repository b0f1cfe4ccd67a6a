use Rattle.script.specs.Calls.{ring_said}
use Rattle.script.specs.Kits.{residue_kit, word_kit, pair_kit}
use Rattle.script.proofs.Equal.{made_by, residue_answers, word_answers, pair_answers}
use Rattle.script.proofs.ringing.ring_answer.Goals as goal

pub returns-in-Residue : goal.returns-in-Residue
returns-in-Residue c = rw c.in-Residue.is (made_by residue_kit _ residue_answers (ring_said c.args.call) c.element_answer.result c.element_answer.ensures)

pub returns-in-Word : goal.returns-in-Word
returns-in-Word c = rw c.in-Word.is (made_by word_kit _ word_answers (ring_said c.args.call) c.element_answer-in-Word.result c.element_answer-in-Word.ensures)

pub returns-in-PairResidue : goal.returns-in-PairResidue
returns-in-PairResidue c = rw c.in-PairResidue.is (made_by (pair_kit residue_kit) _ (pair_answers residue_kit _ residue_answers) (ring_said c.args.call) c.element_answer-in-PairResidue.result c.element_answer-in-PairResidue.ensures)

pub returns-in-PairWord : goal.returns-in-PairWord
returns-in-PairWord c = rw c.in-PairWord.is (made_by (pair_kit word_kit) _ (pair_answers word_kit _ word_answers) (ring_said c.args.call) c.element_answer-in-PairWord.result c.element_answer-in-PairWord.ensures)

pub returns-in-PairPairResidue : goal.returns-in-PairPairResidue
returns-in-PairPairResidue c = rw c.in-PairPairResidue.is (made_by (pair_kit (pair_kit residue_kit)) _ (pair_answers (pair_kit residue_kit) _ (pair_answers residue_kit _ residue_answers)) (ring_said c.args.call) c.element_answer-in-PairPairResidue.result c.element_answer-in-PairPairResidue.ensures)

pub returns-in-PairPairWord : goal.returns-in-PairPairWord
returns-in-PairPairWord c = rw c.in-PairPairWord.is (made_by (pair_kit (pair_kit word_kit)) _ (pair_answers (pair_kit word_kit) _ (pair_answers word_kit _ word_answers)) (ring_said c.args.call) c.element_answer-in-PairPairWord.result c.element_answer-in-PairPairWord.ensures)
