use Rattle.script.specs.Kits.{residue_kit, word_kit, pair_kit}
use Rattle.script.specs.Slots.{slot}
use Rattle.script_selector.specs.Calls.{said}
use Rattle.script_selector.proofs.Equal.{told_by}
use Rattle.script_selector.proofs.answering.kind_answer.Goals as goal

pub returns-in-Residue : goal.returns-in-Residue
returns-in-Residue c = rw c.in-Residue.is (told_by residue_kit _ (slot c.args.session.now) (said c.args.call) c.element_answer.result c.element_answer.ensures)

pub returns-in-Word : goal.returns-in-Word
returns-in-Word c = rw c.in-Word.is (told_by word_kit _ (slot c.args.session.now) (said c.args.call) c.element_answer-in-Word.result c.element_answer-in-Word.ensures)

pub returns-in-PairResidue : goal.returns-in-PairResidue
returns-in-PairResidue c = rw c.in-PairResidue.is (told_by (pair_kit residue_kit) _ (slot c.args.session.now) (said c.args.call) c.element_answer-in-PairResidue.result c.element_answer-in-PairResidue.ensures)

pub returns-in-PairWord : goal.returns-in-PairWord
returns-in-PairWord c = rw c.in-PairWord.is (told_by (pair_kit word_kit) _ (slot c.args.session.now) (said c.args.call) c.element_answer-in-PairWord.result c.element_answer-in-PairWord.ensures)

pub returns-in-PairPairResidue : goal.returns-in-PairPairResidue
returns-in-PairPairResidue c = rw c.in-PairPairResidue.is (told_by (pair_kit (pair_kit residue_kit)) _ (slot c.args.session.now) (said c.args.call) c.element_answer-in-PairPairResidue.result c.element_answer-in-PairPairResidue.ensures)

pub returns-in-PairPairWord : goal.returns-in-PairPairWord
returns-in-PairPairWord c = rw c.in-PairPairWord.is (told_by (pair_kit (pair_kit word_kit)) _ (slot c.args.session.now) (said c.args.call) c.element_answer-in-PairPairWord.result c.element_answer-in-PairPairWord.ensures)
