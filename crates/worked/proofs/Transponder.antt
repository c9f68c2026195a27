-- The examples at the edges: every row of the listing says the same twice.
use mathlib.Core.Path.{refl}
use Rattle.lists.specs.Lists.{over}
use Rattle.lists.specs.Checks.{checked}
use Rattle.lists.specs.Listing.{Agrees, ◌also◌}
use Rattle.parity_rules.specs.Messages.{bits}
use Rattle.parity_rules.specs.Division.{shift_in, divide, remainder_of}
use Rattle.parity_rules.specs.Overlays.{low_bits, times, overlay_of}
use Rattle.frames_rules.specs.Building as frames
use Rattle.frames_rules.specs.Fields.{head_of, mid_of, selective_head, all_call_head, reply_head, all_call_reply_head}
use Rattle.frames_rules.specs.Frames.{front, sealed}
use Rattle.frames_rules.specs.Reading.{read_as, surveillance_read}
use Rattle.frames_rules.specs.Interrogations.{up_of}
use Rattle.frames_rules.specs.Shared.{code_for, drawn}
use Rattle.model_rules.specs.State.{started, messages_with, messages_after}
use Rattle.model_rules.specs.Lapse.{timers_after, lapse}
use Rattle.model_rules.specs.Lockout.{started_by_los, started_by_lss, command_of_sd, commanded, lockout, locked_to}
use Rattle.model_rules.specs.CommB.{reserve, closeout}
use Rattle.model_rules.specs.Replies.{sending, respond, draws_below, answers, answer_all_call}
use Rattle.model_rules.specs.Calls.{newborn, make_ranged, making, queuing, steps, interrogated, laid_over, selective_comes, all_call_comes, comes, taking}
use Rattle.model_rules.specs.Numbers.{checks}
use Rattle.model_rules.specs.History.{after}
use Rattle.model_rules.specs.Story.{reserving, closing}
use Rattle.model_rules.specs.Seen.{told, last_command}
use Rattle.model_rules.specs.Replied.{sent_to}
use Rattle.worked.specs.Transponder.{listing}

-- the one claim
pub model_agrees : Agrees listing
unfolding bits shift_in divide remainder_of low_bits times overlay_of over frames.reply_ranged frames.all_call_reply_ranged frames.selective frames.all_call
    frames.a_reply frames.an_all_call_reply frames.replying frames.all_call_replying head_of mid_of selective_head all_call_head reply_head
    all_call_reply_head front sealed read_as surveillance_read up_of code_for drawn started messages_with messages_after timers_after lapse
    started_by_los started_by_lss command_of_sd
    commanded lockout locked_to reserve closeout sending respond draws_below answers answer_all_call newborn make_ranged making queuing steps interrogated
    laid_over selective_comes all_call_comes comes taking after checked checks reserving closing told last_command sent_to
model_agrees =
    refl also refl also refl also refl also refl also refl also refl also refl also refl also refl also refl also refl also refl also refl also refl also
    refl also refl also refl also refl also refl also refl also refl also refl also refl also refl also refl also refl also refl also refl also refl also
    refl also refl also refl also refl also refl also refl also refl also refl also refl also refl also refl also refl also refl also refl also refl also
    refl also refl also refl also refl also refl also refl also refl also refl also refl also refl also refl also refl also refl also refl also refl also
    refl also refl also refl also refl also refl also tt
