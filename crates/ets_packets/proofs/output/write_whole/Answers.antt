use Rattle.ets_packets.proofs.output.write_whole.Goals as goal

pub returns-in-Err-clause-err : goal.returns-in-Err-clause-err
returns-in-Err-clause-err g c =
    let part = c.in-Err.ensures in
    record { sent = part.0; unsent = part.1; written = part.3; parts = part.2 }
