-- `desk::files::load` meets its contract: a window, numbers of its own, and the file read. Assumes nothing.
use Rattle.desk.proofs.Schedules.{by_reading}
use Rattle.desk.proofs.files.load.Goals as goal

pub returns : goal.returns
returns c = by_reading _ _ _ c.read_file-reader.ensures.reading c.finish.ensures
