-- The tick judge: the endless timeline itself.
use Rattle.std.specs.Prelude.{◌<◌, length}
use Rattle.timeline.specs.Timeline.{InTimeBelow, WorstResponse, below_those}
use Rattle.judges.specs.Meaning.{Meaning, Reckoning}

-- yes exactly if no request of the judged task is late
abbrev pub InTime : Meaning
InTime tasks starts judged above = (judged < length tasks) × InTimeBelow tasks starts judged above

-- the response is the worst one
abbrev pub WorstInTime : Reckoning
WorstInTime tasks starts judged above n =
    InTime tasks starts judged above × WorstResponse tasks starts (below_those judged above) judged n
