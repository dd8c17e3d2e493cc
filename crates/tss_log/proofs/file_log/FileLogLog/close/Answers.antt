-- The last piece changes no other file.
use Rattle.tss_log.specs.FileLogs.{keeps_any}
use Rattle.tss_log.proofs.FileLogLemmas.{others_stay}
use Rattle.tss_log.proofs.file_log.FileLogLog.close.Goals as goal

pub returns-clause-others : goal.returns-clause-others
returns-clause-others g c =
    let put = c.put_last.ensures in
    let old = c.args.self.now in
    others_stay g.F.Files old c.put_last.new.self (keeps_any old.kept) c.put_last.result _ put.keeps put.puts
