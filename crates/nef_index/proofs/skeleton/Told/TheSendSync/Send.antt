use denote.Param.Send.{IsSend, sendable}
use Rattle.nef_index.specs.contracts.skeleton.Told.{the_row}

pub send : IsSend the_row
send = search sendable
