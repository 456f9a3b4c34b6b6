-- `desk::render` meets its contract: either renderer's block ensures the same. Assumes nothing.
use Rattle.desk.proofs.render.Goals as goal

pub returns-in-Fast : goal.returns-in-Fast
returns-in-Fast c = c.process.ensures

pub returns-in-Plain : goal.returns-in-Plain
returns-in-Plain c = c.process-in-Plain.ensures
