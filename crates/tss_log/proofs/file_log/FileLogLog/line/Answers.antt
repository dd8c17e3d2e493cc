-- A line changes no other file.
use Rattle.tss_log.proofs.FileLogLemmas.{others_stay}
use Rattle.tss_log.proofs.file_log.FileLogLog.line.Goals as goal

pub returns-clause-others : goal.returns-clause-others
returns-clause-others g c =
    let put = c.put_line.ensures in
    others_stay g.F.Files c.args.self.now c.put_line.new.self _ c.put_line.result _ put.keeps put.puts
