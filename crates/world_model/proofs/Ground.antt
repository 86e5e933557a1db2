-- Passes on what most proofs cite: members of lists, sides and holders, moves of a world, and what a client has sent or is told.
pub use Rattle.world_model.proofs.Booked.{Goings, drop_front, among_at, place_of, booked_moved}
pub use Rattle.world_model.proofs.FaultlessLists.{blocks_more, Opened, Writes, wrote, full, scarce, serve_open, serve_write, serve_unload, map_same, count_reel, slot_names, Behind, same_bin, next_of, length_push, reel_is, served_bin}
pub use Rattle.world_model.proofs.Held.{comes_serves, KeepsHeldOver, held_ended_by, held_all_ended_by, free_then, held_moved}
pub use Rattle.world_model.proofs.Moves.{Move, begins, connects, asks, fails, hears, hears_last, sees, Back, gone, comes, back_caller, forgets, gives_up, answers, moved, server_move, connections_more, Turn, turned, Listens, told_counts, reaches, cuts, talks, server_moved, happened, is_over, Sender, turn_of, carries_turn, begun_more, talked, talked_dump}
pub use Rattle.world_model.proofs.NamedRequests.{Comes, step_comes, stays, closes, opens, moves, use_of}
pub use Rattle.world_model.proofs.Numbers.{no_number, length_changed, pushed_is, numbered_more, numbered_last, numbered_within, numbered_first, numbered_there, less_or_more, changed_is, map_at, changed_there, set_other, with_here, with_twice}
pub use Rattle.world_model.proofs.Owned.{Standings, owned_moved}
pub use Rattle.world_model.proofs.Readable.{readable_moved}
pub use Rattle.world_model.proofs.SentLeads.{on_by_one, label_accepted, block_accepted}
pub use Rattle.world_model.proofs.SentServe.{nothing_there, serve_pending, noted_same, never_dropped, served_leads}
pub use Rattle.world_model.proofs.SentSteps.{called, shown_brief, look_online, IsLeftWith}
pub use Rattle.world_model.proofs.SentWire.{OneReply, OneReading, DroppedWrites, one_heard, brief_begins, raised_one, steps_len, before_length, one_if, done_few, reply_whole, reply_no_fault, fresh_unread, one_read, text_not_long}
pub use Rattle.world_model.proofs.ServerMoves.{ServerMove, reads, arranges, server_after, IsNoRequest, leaves}
pub use Rattle.world_model.proofs.Sides.{side_there, Sits, sits_here, sits_other, sits_is, joined_is, joined_was, KeepsOver, ended_by, all_ended_by}
pub use Rattle.world_model.proofs.Tidy.{tidy_moved}
pub use Rattle.world_model.proofs.ToldMoves.{same_told, changed_told, joined_told, strangers, cut_told, ended_told, restarted_told, left_told, reached_told, served_told, mapped, turned_here, turned_beside}
